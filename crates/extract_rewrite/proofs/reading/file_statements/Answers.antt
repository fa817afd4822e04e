use Rattle.std.proofs.Common.{◌∙◌, Option, Some, sym, subst}
use Rattle.std.specs.Borrow.{Bor}
use Rattle.std.specs.Option.{option_map}
use Rattle.go_base.specs.declared.bytes.FileText.{FileText}
use Rattle.go_tree.specs.declared.file.File.{File}
use Rattle.extract_rewrite.specs.Reading.{IsReadThere}
use Rattle.extract_rewrite.proofs.FilesRead.{unchanged}
use Rattle.extract_rewrite.proofs.reading.file_statements.Goals as goal

pub returns-in_ok-statements_of-in-Some-Some : goal.returns-in_ok-statements_of-in-Some-Some
returns-in_ok-statements_of-in-Some-Some c =
    let n = c.args.number in
    let x = c.in-Some-Some.before.now in
    let f = c.in-Some-Some.file.now in
    let files : IsReadThere n (option_map (λ (y : Bor FileText). y.now) c.args.before) (Some f) =
    subst (λ (o : Option (Bor File)). IsReadThere n (option_map (λ (y : Bor FileText). y.now) c.args.before) (option_map (λ (g : Bor File). g.now) o)) c.in-Some-Some.is-0 c.requires.read in
    let read : IsReadThere n (Some x) (Some f) = subst (λ (o : Option (Bor FileText)). IsReadThere n (option_map (λ (y : Bor FileText). y.now) o) (Some f)) c.in-Some-Some.is-1 files in
    unchanged n c.in_ok-statements_of-in-Some-Some.field-0 x c.args.text.now f read (sym c.have_same_bytes.ensures ∙ c.if-have_same_bytes.true) c.in_ok-statements_of-in-Some-Some.ensures
