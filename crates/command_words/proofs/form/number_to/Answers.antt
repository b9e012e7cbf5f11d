use Rattle.std.proofs.Common.{inl, inr, arith}
use Rattle.command_words.proofs.Numbers.{not_to}
use Rattle.command_words.proofs.form.number_to.Goals as goal

pub returns-in_default-clause-none : goal.returns-in_default-clause-none
returns-in_default-clause-none c = not_to c.args.word.now c.in-Some.n c.args.most c.in-Some.ensures.some (omega arith) (omega arith) (inr c.if-n-most.false)

pub returns-in_default-2-clause-none : goal.returns-in_default-2-clause-none
returns-in_default-2-clause-none c = not_to c.args.word.now c.in-Some.n c.args.most c.in-Some.ensures.some (omega arith) (omega arith) (inl c.if-n-gt0.false)
