use Rattle.std.proofs.Common.{sym, ap, subst, arith}
use Rattle.repetitions.specs.Plans.{Sound}
use Rattle.repetitions.specs.Walks.{planned}
use Rattle.repetitions.proofs.copies.Walk.begin.Goals as goal

pub overflow_add-result : goal.overflow_add-result
overflow_add-result c = let z = subst Sound c.in-Listed.is c.requires in omega (arith, z.spaces)

pub returns-in-Uniform : goal.returns-in-Uniform
returns-in-Uniform c = sym (ap (λ p. planned p c.args.next) c.in-Uniform.is)

pub returns-in-Listed : goal.returns-in-Listed
returns-in-Listed c = sym (ap (λ p. planned p c.args.next) c.in-Listed.is)
