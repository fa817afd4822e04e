use Rattle.std.proofs.Common.{subst}
use Rattle.go_base.specs.Gives.{Meets}
use Rattle.go_package_defs.specs.Refusals.{check_refusal}
use Rattle.go_package.specs.Reading.{AreParsed, IsUnparsed}
use Rattle.go_package.proofs.Files.{small_files, read_or_reported}
use Rattle.go_package.proofs.read.read_files.Goals as goal

pub lex_files-requires-clause-small : goal.lex_files-requires-clause-small
lex_files-requires-clause-small c = small_files c.args.texts.now c.requires.small

pub returns : goal.returns
returns c = read_or_reported c.one_fault.ensures.none c.one_lexing.ensures c.args.texts.now c.in_ok-tokens.tokens.items c.parse_files.result c.in_ok-tokens.ensures (subst (λ ts. Meets check_refusal c.parse_files.result (λ v. AreParsed ts v.items) (IsUnparsed ts)) c.deref.ensures.value c.parse_files.ensures)
