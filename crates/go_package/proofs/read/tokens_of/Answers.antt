use Rattle.std.proofs.Common.{rules, ◌≡◌, ◌∙◌, sym, false}
use Rattle.go_tokens.specs.Files.{IsFault}
use Rattle.go_package.specs.Reading.{is_encoding}
use Rattle.go_package.proofs.Codes.{encoding_of, later_of, no_encoding}
use Rattle.go_package.proofs.read.tokens_of.Goals as goal

pub returns-in-Err-Fault : goal.returns-in-Err-Fault
returns-in-Err-Fault c =
    let fault : IsFault c.args.number c.args.text.now.bytes c.in-Err-Fault.fault = search rules in
    encoding_of c.args.number c.args.text.now.bytes c.in-Err-Fault.fault fault (sym c.is_encoding.ensures ∙ c.if-is_encoding.true)

pub returns-in-Err-Fault-2 : goal.returns-in-Err-Fault-2
returns-in-Err-Fault-2 c =
    let fault : IsFault c.args.number c.args.text.now.bytes c.in-Err-Fault.fault = search rules in
    let code_is : is_encoding c.in-Err-Fault.fault.code ≡ false = sym c.is_encoding.ensures ∙ c.if-is_encoding.false in
    (later_of c.args.number c.args.text.now.bytes c.in-Err-Fault.fault fault code_is, no_encoding c.one_fault.ensures.same c.args.number c.args.text.now.bytes c.in-Err-Fault.fault fault code_is)
