-- `walking::walked` meets its contract: in degree 2 whatever is lent for second slots stays.
use Rattle.walking.proofs.walked.Goals as goal

pub returns-in-Two : goal.returns-in-Two
returns-in-Two c = rw c.in-Two.is (c.walked_two.ensures c.args.seconds.now)
