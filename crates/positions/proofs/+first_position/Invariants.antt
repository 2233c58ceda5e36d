use Rattle.positions.proofs.+first_position.Given as goal

-- the number itself falls
abbrev pub decreases-first_position : goal.decreases-first_position
decreases-first_position l = l.p
