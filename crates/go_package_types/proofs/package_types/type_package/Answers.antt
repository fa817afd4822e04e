use Rattle.std.proofs.Common.{◌≡◌, ◌≤◌, [], length, map, ap, sym, subst, ◌∙◌, arith}
use Rattle.go_base.specs.Gives.{Gives}
use Rattle.go_types.specs.Tables.{Table}
use Rattle.go_types.specs.Changes.{first_types}
use Rattle.go_types_relations.specs.Extends.{Extends}
use Rattle.go_types_relations.proofs.Public.{extends_both}
use Rattle.go_exprs_engine.proofs.Public.{longer}
use Rattle.go_typed.specs.Packages.{referents}
use Rattle.go_typed.specs.Scopes.{EnvView}
use Rattle.go_typed.specs.Views.{sort_view}
use Rattle.go_exprs.specs.Expressions.{failure_named}
use Rattle.go_package_defs.specs.Answer.{answer_with, specifications}
use Rattle.go_package_defs.specs.Knowledge.{outlines}
use Rattle.go_package_defs.specs.Sources.{package_of, source_of}
use Rattle.go_declarations.specs.Views.{seen_all}
use Rattle.go_needs.specs.Tells.{TellsNeeds}
use Rattle.go_package_rounds.specs.World.{AreNamed}
use Rattle.go_package_rounds.proofs.Public.{named_more}
use Rattle.go_package_types.specs.Answers.{environment_seen}
use Rattle.go_package_types.specs.Numbers.{open_rights}
use Rattle.go_package_types.proofs.Read.{specifications_read}
use Rattle.go_package_types.proofs.Undeclared.{Bare, bare_longer, bare_whole, first_stays, first_whole}
use Rattle.go_package_types.proofs.package_types.type_package.Goals as goal

pub judged-requires-clause-fits : goal.judged-requires-clause-fits
judged-requires-clause-fits c =
    let fs = c.args.files.now in
    let u = c.args.uses.now in
    let p = package_of (map source_of fs) u in
    let specs = c.deref-2.result.now in
    let seen : seen_all specs ≡ specifications 0 (map source_of fs) = ap seen_all c.deref-2.ensures.value ∙ c.in_ok-specifications.ensures in
    let same = ap seen_all (c.deref.ensures.value ∙ sym c.deref-2.ensures.value) in
    record {
      needs = subst (TellsNeeds c.in_ok-needs.needs p) same (c.in_ok-needs.ensures fs c.requires.units);
      env = c.new-counted.ensures
          ∙ ap (λ xs. let e : EnvView = record { objects = map sort_view xs; referents = c.in_ok-numbers.numbers.items } in e) c.new-nothing.ensures.items
          ∙ ap (λ rs. let e : EnvView = record { objects = []; referents = rs } in e) (c.in_ok-numbers.ensures ∙ ap referents c.package_objects-objects.ensures.objects);
      named = subst (AreNamed c.basics.new.types) (sym c.deref-3.ensures.value) (named_more c.declare_types.new.types c.basics.new.types c.count.ensures.table c.in_ok-basics.ensures.grows.extends c.in_ok-named.named.items c.in_ok-named.ensures.named);
      basics = c.in_ok-basics.ensures.basics;
      literals = specifications_read c.literals_read.ensures.file c.literals_of_specifications_are_read.ensures fs u specs c.requires.lexed seen;
    }

pub judged-requires-clause-fresh : goal.judged-requires-clause-fresh
judged-requires-clause-fresh c = c.in_ok-basics.ensures.grows.rights ∙ c.in_ok-named.ensures.rights ∙ ap open_rights c.package_objects-objects.ensures.objects

pub judged-requires-clause-within : goal.judged-requires-clause-within
judged-requires-clause-within c =
    let count = c.count-size.ensures.count in
    let a = longer c.args.types.now c.declare_types.new.types c.count-size.ensures.table c.declare_types.ensures.extends in
    let b = longer c.declare_types.new.types c.basics.new.types c.count.ensures.table c.basics.ensures.grows.extends in
    omega (arith, count, a, b)

pub judged-requires-clause-bare : goal.judged-requires-clause-bare
judged-requires-clause-bare c =
    let t = c.args.types.now in
    let z = c.basics.new.types in
    let more = extends_both t c.declare_types.new.types z c.declare_types.ensures.extends c.basics.ensures.grows.extends in
    subst (λ n. Bare n z) (sym c.count-size.ensures.count) (bare_longer (length t.shapes) t z (let l : length t.shapes ≤ length t.shapes = omega arith in l) more (bare_whole t c.count-size.ensures.table c.requires.fresh))

pub returns-clause-extends : goal.returns-clause-extends
returns-clause-extends c =
    let t = c.args.types.now in
    let z = c.basics.new.types in
    let more = extends_both t c.declare_types.new.types z c.declare_types.ensures.extends c.basics.ensures.grows.extends in
    let bare = bare_whole t c.count-size.ensures.table c.requires.fresh in
    let same : first_types c.count-size.result z ≡ t =
    ap (λ n. first_types n z) c.count-size.ensures.count ∙ first_stays (length t.shapes) t z (let l : length t.shapes ≤ length t.shapes = omega arith in l) more bare ∙ first_whole t c.count-size.ensures.table c.requires.fresh in
    subst (λ (x : Table). Extends x c.judged.new.types) same c.judged.ensures.extends

pub returns-clause-exact : goal.returns-clause-exact
returns-clause-exact c =
    let fs = c.args.files.now in
    let p = package_of (map source_of fs) c.args.uses.now in
    let seen : seen_all c.deref-2.result.now ≡ specifications 0 (map source_of fs) = ap seen_all c.deref-2.ensures.value ∙ c.in_ok-specifications.ensures in
    subst (Gives (environment_seen c.judged.new.types) failure_named c.judged.result) (ap (λ ds. answer_with p ds (outlines p ds)) seen) c.judged.ensures.exact
