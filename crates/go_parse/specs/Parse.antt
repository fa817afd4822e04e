-- What a parser answers.
use Rattle.std.specs.Prelude.{◌≡◌, length, Option, Some, None}
use Rattle.go_base.specs.declared.fault.Fault.{Fault}
use Rattle.go_base.specs.declared.fault.FaultCode.TheVariants as code
use Rattle.go_tokens.specs.Tokens.{TokenList}
use Rattle.go_parse.specs.declared.error.ParseError.{ParseError}
use Rattle.go_parse.specs.declared.error.ParseError.TheVariants as errors

-- the fault that an error names
abbrev pub parse_refusal : ParseError → Option Fault
parse_refusal (errors.Fault fault) = Some fault
parse_refusal errors.Memory = None

-- the fault of a file without a tree: over the whole file
pub record IsSyntaxFault (l : TokenList) (f : Fault) : Type 0 where
  pub code : f.code ≡ code.Syntax
  pub file : f.span.file ≡ l.file
  pub start : f.span.start ≡ 0
  pub end : f.span.end ≡ length l.text
