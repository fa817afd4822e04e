use Rattle.std.proofs.Common.{sym, subst}
use Rattle.go_package_defs.specs.Checked.{names_of}
use Rattle.go_package.specs.Functions.{AreFiles}
use Rattle.go_package.specs.Checks.{ShowsBodies}
use Rattle.go_package.proofs.Parts.{bodies_are}
use Rattle.go_package.proofs.phases.check_bodies.Goals as goal

pub type_bodies-requires-clause-files : goal.type_bodies-requires-clause-files
type_bodies-requires-clause-files c = subst AreFiles (sym c.deref.ensures.value) c.requires.files

pub returns : goal.returns
returns c =
    let old = c.args.types in
    let new = c.type_bodies.new.types in
    let b = c.in_ok-functions.field-0 in
    let shows = subst (λ fs. ShowsBodies old new fs c.args.uses c.args.env b) c.deref.ensures.value c.in_ok-functions.ensures.exact in
    bodies_are c.args.files.items c.args.uses c.args.env (names_of c.args.texts.now) old new c.count.ensures.table c.type_bodies.ensures.extends c.requires.objects c.requires.referents
    b.functions.items b.variables.items shows.functions shows.variables c.in_ok-assembled.field-0 c.in_ok-assembled.ensures
