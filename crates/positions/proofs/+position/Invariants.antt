use Rattle.positions.proofs.+position.Given as goal

-- the number itself falls
abbrev pub decreases-position : goal.decreases-position
decreases-position l = l.p
