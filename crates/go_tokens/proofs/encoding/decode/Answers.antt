use Rattle.std.proofs.Common.{◌∙◌, length, subst, eqb-true, eq-eqb, arith}
use Rattle.go_tokens.specs.Encoding.{IsText}
use Rattle.go_tokens.proofs.Encodings.{front_width, decode_fault, decode_text}
use Rattle.go_tokens.proofs.Lists.{true_false}
use Rattle.go_tokens.proofs.encoding.decode.Goals as goal

pub text_fault-requires : goal.text_fault-requires
text_fault-requires c = omega (arith, c.requires, front_width c.args.bytes.now c.valid_front-front.result.now c.deref.result.now (record { is = c.valid_front-front.ensures.front; utf8 = c.valid_front-front.ensures.utf8; longest = c.valid_front-front.ensures.longest; text_is = c.deref.ensures.value ∙ c.in_ok-text.ensures }))

pub returns-in-Some : goal.returns-in-Some
returns-in-Some c = record { exact = decode_fault c.args.file c.args.bytes.now c.valid_front-front.result.now c.deref.result.now c.in-Some.fault _ (record { is = c.valid_front-front.ensures.front; utf8 = c.valid_front-front.ensures.utf8; longest = c.valid_front-front.ensures.longest; text_is = c.deref.ensures.value ∙ c.in_ok-text.ensures }) (λ k e. true_false _ (eq-eqb (length c.valid_front-front.result.now) (length c.args.bytes.now) e) k) c.in-Some.ensures }

pub returns-in-None : goal.returns-in-None
returns-in-None c = record { exact = subst (λ l. IsText l c.args.bytes.now) c.deref.ensures.value (decode_text c.args.bytes.now c.valid_front-front.result.now c.deref.result.now (record { is = c.valid_front-front.ensures.front; utf8 = c.valid_front-front.ensures.utf8; longest = c.valid_front-front.ensures.longest; text_is = c.deref.ensures.value ∙ c.in_ok-text.ensures }) (eqb-true (length c.valid_front-front.result.now) (length c.args.bytes.now) c.in-None.ensures.1) c.in-None.ensures.0) }
