use Rattle.std.proofs.Common.{◌∙◌, sym, inl, inr, subst, arith}
use Rattle.std.proofs.lemmas.List.{take_all}
use Rattle.std.proofs.lemmas.Str.{utf8_valid_len-IsUtf8}
use Rattle.std.specs.Str.{IsValidUpTo}
use Rattle.std.specs.Str.Lossy.{utf8_valid_len}
use Rattle.go_tokens.proofs.encoding.valid_front.Goals as goal

pub returns-in-Ok-clause-front : goal.returns-in-Ok-clause-front
returns-in-Ok-clause-front c = c.in-Ok.ensures.cases.0 ∙ sym (take_all (utf8_valid_len c.args.bytes.now) c.args.bytes.now (omega (arith, utf8_valid_len-IsUtf8 c.args.bytes.now c.in-Ok.ensures.cases.1)))

pub returns-in-Ok-clause-longest : goal.returns-in-Ok-clause-longest
returns-in-Ok-clause-longest c = inl c.in-Ok.ensures.cases.1

pub returns-in-Err-clause-longest : goal.returns-in-Err-clause-longest
returns-in-Err-clause-longest c = inr (subst (IsValidUpTo c.args.bytes.now) c.in-Err.ensures.valid_len c.in-Err.ensures.cases.1)
