-- A function that stays as it is in a package with one function more, of whatever body, in which other bodies may have changed.
use Rattle.std.proofs.Common.{◌≡◌, ◌∙◌, ℕ, suc, ◌+◌, List, ◌∷◌, ◌++◌, length, map, Some, slice_get, ap, refl, sym, subst, arith}
use Rattle.std.specs.Prelude.{Bool, Ok}
use Rattle.std.specs.List.{AllByRecursion}
use Rattle.std.specs.Option.{option_map}
use Rattle.std.proofs.lemmas.Option.{slice_get-map}
use Rattle.go_exprs_rules.specs.Sorts.{Stands}
use Rattle.go_heads.specs.Functions.{AreRead}
use Rattle.go_heads.specs.Heads.{File, heads}
use Rattle.go_heads.specs.Objects.{KeepsObjects}
use Rattle.go_heads_added.specs.Added.{Gap, beyond}
use Rattle.go_heads_added.specs.Kept.{KeepsPackage}
use Rattle.go_heads_added.specs.Reported.{KeepsBytes}
use Rattle.go_heads_types.specs.Answers.{KeepsAnswer}
use Rattle.go_heads_types.specs.HeadPortions.{IsFaultless as HasCleanNames, KeepsTypedFunctions}
use Rattle.go_heads_types.specs.Portions.{AreNamed, KeepsPortions, files_of, function_specifications}
use Rattle.go_heads_types.specs.Typings.{rights_after, rights_before}
use Rattle.go_package_added.specs.Appended.{IsAppended, function_specification, package_in}
use Rattle.go_package_added.specs.OneMore.{with_function}
use Rattle.go_package_added.specs.Reported.{KeepsBodies}
use Rattle.go_package_defs.specs.Answer.{Environment, package_answer, specifications}
use Rattle.go_package_defs.specs.Bodies.{Portion, Surroundings, function_of, portion_of, those_of, typed_function, types_in}
use Rattle.go_package_defs.specs.Checked.{Typing, surroundings_of}
use Rattle.go_package_defs.specs.Declarations.{Specification}
use Rattle.go_package_defs.specs.Sources.{Package, Source, package_of, unit_of}
use Rattle.go_package_settled.specs.Read.{IsFaultless}
use Rattle.go_renumbering.specs.Functions.{AreBelow, RenamedFunctions, shifted}
use Rattle.go_tree.specs.Uses.{UsesView, uses}
use Rattle.go_tree.specs.declared.context.Entity.TheVariants as entity
use Rattle.go_typed.specs.Packages.{referents}
use Rattle.go_typed.specs.declared.form.Referent.{Referent}
use Rattle.go_types.specs.Relations.{Rights}
use Rattle.clone_window_added.specs.Extended.{IsExtended, KeepsFunction, KeepsTypes, StaysAsItIs}
use Rattle.clone_window_added.specs.Unchanged.{KeepsBody, StaysBody, body_in, renumbered}
use Rattle.clone_window_added.proofs.Answered.{Answered, answered, beyond_there, those_have, two_answers, units_same}
use Rattle.clone_window_added.proofs.Lists.{there}
use Rattle.clone_window_added.proofs.Moved.{masses_moved, one_body, windows_moved}
use Rattle.clone_window_added.proofs.Places.{AtPlace, all_stand_behind, at_place}
use Rattle.clone_window_added.proofs.Typeless.{RightSidesAreAdded}

-- a function behind more right sides
abbrev pub MoreRightSides : Type 0
MoreRightSides = (a : Surroundings) (rights more : Rights) (number : ℕ) (which : List Bool) (o : Portion) → AreBelow (length rights) a rights
    → RenamedFunctions (shifted (length rights) (length more)) (function_of a rights number which o) (function_of a (rights ++ more) number which o)

-- The laws that are used, of equal heads, of right sides, and of the package with the function whose body is empty.
pub record Laws : Type 0 where
  pub answers : (ss us : List Source) (u v : UsesView) (names others : List (List ℕ)) → HasCleanNames (package_of ss u) names → HasCleanNames (package_of us v) others
      → heads (files_of names ss) ≡ heads (files_of others us) → KeepsAnswer ss us u v
  pub objects : (old new : List File) → AreRead old → AreRead new → heads old ≡ heads new → KeepsObjects old new
  pub functions : (p q : Package) (names others : List (List ℕ)) → HasCleanNames p names → HasCleanNames q others → heads (files_of names p.sources) ≡ heads (files_of others q.sources)
      → KeepsTypedFunctions p q names others
  pub portions : (p q : Package) (names others : List (List ℕ)) → AreNamed names p.sources → AreNamed others q.sources → AreRead (files_of names p.sources) → AreRead (files_of others q.sources)
      → heads (files_of names p.sources) ≡ heads (files_of others q.sources) → KeepsPortions p q names others
  pub below : (ss : List Source) (names : List (List ℕ)) → AreNamed names ss → AreRead (files_of names ss) → (u : UsesView) (e : Environment) → u ≡ uses (map unit_of ss) → package_answer ss u ≡ Ok e
      → AreBelow (length e.rights) (surroundings_of u e) e.rights
  pub added : RightSidesAreAdded
  pub more : MoreRightSides
  pub bodies : (k : ℕ) (ss us : List Source) (h : IsAppended k ss us) (keeps : KeepsPackage k h.count (suc h.first) (map unit_of ss) (map unit_of us)) → IsFaultless ss
      → (x : Environment) → package_answer ss (uses (map unit_of ss)) ≡ Ok x → (s : Stands)
      → AllByRecursion (KeepsBody (package_in ss) (package_in us) keeps.gap (surroundings_of (uses (map unit_of ss)) x) (surroundings_of (uses (map unit_of us)) (with_function keeps.gap.shared s x))) (specifications 0 ss)
  pub around : (k : ℕ) (ss us : List Source) (h : IsAppended k ss us) (keeps : KeepsPackage k h.count (suc h.first) (map unit_of ss) (map unit_of us)) → IsFaultless ss
      → KeepsBytes h.count h.old_tokens h.new_tokens → (x : Environment) → package_answer ss (uses (map unit_of ss)) ≡ Ok x → (s : Stands)
      → KeepsBodies (package_in ss) (package_in us) keeps.gap (surroundings_of (uses (map unit_of ss)) x) (surroundings_of (uses (map unit_of us)) (with_function keeps.gap.shared s x)) (function_specification k ss us h)
      (those_of entity.Function (specifications 0 ss)) (those_of entity.Function (specifications 0 us))
  pub counted : (k : ℕ) (ss us : List Source) (h : IsAppended k ss us) (keeps : KeepsPackage k h.count (suc h.first) (map unit_of ss) (map unit_of us)) → IsFaultless ss → IsFaultless us
      → (front rest : List Specification) → those_of entity.Function (specifications 0 ss) ≡ front ++ rest → those_of entity.Function (specifications 0 us) ≡ front ++ function_specification k ss us h ∷ rest
      → length front ≡ keeps.gap.functions

module _ (k : ℕ) (ss ms us : List Source) (names others : List (List ℕ)) (t z : Typing) (h : IsExtended k ss ms us names others t z) where
  abbrev g : Gap
  g = h.keeps.gap

  abbrev p : Package
  p = package_in ss

  abbrev m : Package
  m = package_in ms

  abbrev q : Package
  q = package_in us

  abbrev a : Surroundings
  a = surroundings_of (uses (map unit_of ss)) t.environment

  abbrev middle : Environment
  middle = with_function g.shared h.stands t.environment

  abbrev b : Surroundings
  b = surroundings_of (uses (map unit_of ms)) middle

  abbrev c : Surroundings
  c = surroundings_of (uses (map unit_of us)) z.environment

  abbrev front : Rights
  front = t.environment.rights

  abbrev own : Specification
  own = function_specification k ss ms h.appended

  -- What is known of the three packages: the functions of ss and of ms, and those of ms and of us.
  pub record Known : Type 0 where
    pub before : Answered ss t
    pub after : Answered us z
    pub kept : KeepsBodies p m g a b own (function_specifications p) (function_specifications m)
    pub place : length kept.front ≡ g.functions
    pub bodies : AllByRecursion (KeepsBody p m g a b) (specifications 0 ss)
    pub answer : KeepsAnswer ms us (uses (map unit_of ms)) (uses (map unit_of us))
    pub objects : KeepsObjects (files_of names ms) (files_of others us)
    pub functions : KeepsTypedFunctions m q names others
    pub count : length (function_specifications q) ≡ length (function_specifications m)
    pub below : AreBelow (length front) a front
    pub still_below : AreBelow (length front) b front
    pub added : RightSidesAreAdded
    pub more : MoreRightSides

  pub known : Laws → Known
  known l =
      let before = answered ss t h.typed in
      let after = answered us z h.longer_typed in
      let kept = l.around k ss ms h.appended h.keeps h.faultless h.bytes t.environment before.environment h.stands in
      let clean : HasCleanNames m names = record { named = h.named; read = h.read; uses = refl; faultless = h.still_faultless.names } in
      let others_clean : HasCleanNames q others = record { named = h.others_named; read = h.others_read; uses = refl; faultless = after.clean } in
      record {
        before = before;
        after = after;
        kept = kept;
        place = l.counted k ss ms h.appended h.keeps h.faultless h.still_faultless kept.front kept.rest kept.was kept.is;
        bodies = l.bodies k ss ms h.appended h.keeps h.faultless t.environment before.environment h.stands;
        answer = l.answers ms us (uses (map unit_of ms)) (uses (map unit_of us)) names others clean others_clean h.same_heads;
        objects = l.objects (files_of names ms) (files_of others us) h.read h.others_read h.same_heads;
        functions = l.functions m q names others clean others_clean h.same_heads;
        count = (l.portions m q names others h.named h.others_named h.read h.others_read h.same_heads).count;
        below = l.below ss h.former h.former_named h.former_read (uses (map unit_of ss)) t.environment refl before.environment;
        still_below = l.below ms names h.named h.read (uses (map unit_of ms)) middle refl h.answer;
        added = l.added;
        more = l.more;
      }

  module _ (x : Known) where
    environment_same : z.environment ≡ middle
    environment_same = two_answers (package_answer us (uses (map unit_of us))) middle z.environment (x.answer.before middle h.answer) x.after.environment

    abbrev named : UsesView → List Referent
    named u = referents u.package_level

    referents_same : named (uses (map unit_of us)) ≡ named (uses (map unit_of ms))
    referents_same =
        sym (ap (λ w. named (uses w)) (units_same others us h.others_named)) ∙ x.objects.referents ∙ ap (λ w. named (uses w)) (units_same names ms h.named)

    surroundings_same : c ≡ b
    surroundings_same =
        ap (λ (e : Environment). surroundings_of (uses (map unit_of us)) e) environment_same
        ∙ ap (λ rs. let s : Surroundings = record { objects = middle.objects; referents = rs } in s) referents_same

    pub same_front : z.environment.rights ≡ front
    same_front = ap (λ (e : Environment). e.rights) environment_same

    -- the right sides in front of a function, by what the names of the packages mean
    pub before_same : (i : ℕ) → rights_before ss t i ≡ rights_after p a front 0 (function_specifications p) i
    before_same i = ap (λ (u : UsesView). rights_after (package_of ss u) (surroundings_of u t.environment) front 0 (function_specifications (package_of ss u)) i) x.before.meant

    pub after_same : (i : ℕ) → rights_before us z i ≡ rights_after q c z.environment.rights 0 (function_specifications q) i
    after_same i = ap (λ (u : UsesView). rights_after (package_of us u) (surroundings_of u z.environment) z.environment.rights 0 (function_specifications (package_of us u)) i) x.after.meant

    -- ---- one function

    module _ (n : ℕ) (s : StaysAsItIs k ss ms us names others t z h n) where
      abbrev at : ℕ
      at = beyond g.functions n

      pub there_before : slice_get (function_specifications p) n ≡ Some s.old
      there_before =
          ap (λ ds. slice_get ds n) x.kept.was ∙ sym (beyond_there x.kept.front x.kept.rest own n)
          ∙ ap (λ i. slice_get (x.kept.front ++ own ∷ x.kept.rest) (beyond i n)) x.place
          ∙ sym (ap (λ ds. slice_get ds at) x.kept.is) ∙ s.same.old_specified

      stays : (rights : Rights) (number : ℕ) → StaysBody g (typed_function p a rights number s.old) (typed_function m b rights (beyond g.functions number) s.old)
      stays = there (KeepsBody p m g a b) (function_specifications p) n s.old (those_have (KeepsBody p m g a b) entity.Function (specifications 0 ss) x.bodies) there_before

      abbrev rights_old : Rights
      rights_old = rights_after p a front 0 (function_specifications p) n

      abbrev rights_new : Rights
      rights_new = rights_after q c z.environment.rights 0 (function_specifications q) at

      old_place : AtPlace p a front 0 (function_specifications p) t.bodies n s.old
      old_place = at_place p a front 0 (function_specifications p) t.bodies n s.old x.before.bodies there_before

      new_place : AtPlace q c z.environment.rights 0 (function_specifications q) z.bodies at s.new
      new_place = at_place q c z.environment.rights 0 (function_specifications q) z.bodies at s.new x.after.bodies s.same.new_specified

      seen : typed_function p a rights_old n s.old ≡ Ok old_place.behind
      seen = let number : 0 + n ≡ n = omega arith in sym (ap (λ i. typed_function p a rights_old i s.old) number) ∙ old_place.typed

      met : (rights : Rights) → rights_new ≡ rights → typed_function m b rights at s.old ≡ Ok new_place.behind
      met rights e =
          let number : 0 + at ≡ at = omega arith in
          ap (λ v. typed_function m v rights at s.old) (sym surroundings_same) ∙ ap (λ r. typed_function m c r at s.old) (sym e)
          ∙ sym (x.functions.typed at s.old s.new s.same c rights_new)
          ∙ sym (ap (λ i. typed_function q c rights_new i s.new) number) ∙ new_place.typed

      -- ---- by itself

      pub keeps_function : KeepsFunction g (length front) n (slice_get t.bodies.functions n) (slice_get z.bodies.functions at)
      keeps_function =
          let first = all_stand_behind p a x.added front 0 (function_specifications p) n in
          let second = all_stand_behind q c x.added z.environment.rights 0 (function_specifications q) at in
          let moved : rights_new ≡ front ++ second.rest = second.is ∙ ap (λ r. r ++ second.rest) same_front in
          let one = one_body g (length front) (length first.rest) (length second.rest) (typed_function p a front n s.old) (typed_function m b front at s.old) old_place.behind new_place.behind (stays front n)
          (subst (RenamedFunctions (shifted (length front) (length first.rest)) (typed_function p a front n s.old)) (ap (λ r. typed_function p a r n s.old) (sym first.is) ∙ seen)
          (x.more a front first.rest n (types_in p n) (portion_of p s.old) x.below))
          (subst (RenamedFunctions (shifted (length front) (length second.rest)) (typed_function m b front at s.old)) (met (front ++ second.rest) moved)
          (x.more b front second.rest at (types_in m at) (portion_of m s.old) x.still_below)) in
          record {
            old = old_place.behind.function;
            new = new_place.behind.function;
            was = old_place.stands;
            is = new_place.stands;
            function = one.function;
            in_front = length first.rest;
            now_in_front = length second.rest;
            old_body = one.old_body;
            new_body = one.new_body;
            windows = windows_moved g (length front) (length first.rest) (length second.rest) old_place.behind.function new_place.behind.function one n;
            masses = masses_moved g (length front) (length first.rest) (length second.rest) old_place.behind.function new_place.behind.function one;
          }

      -- ---- behind the same right sides

      same_behind : rights_before us z at ≡ rights_before ss t n → StaysBody g (Ok old_place.behind) (Ok new_place.behind)
      same_behind e =
          subst (λ r. StaysBody g (Ok old_place.behind) r) (met rights_old (sym (after_same at) ∙ e ∙ before_same n))
          (subst (λ r. StaysBody g r (typed_function m b rights_old at s.old)) seen (stays rights_old n))

      pub keeps_types : rights_before us z at ≡ rights_before ss t n → KeepsTypes g n ss us t z
      keeps_types e =
          let same = same_behind e in
          let was = old_place.stands in
          let is = new_place.stands in
          record {
            function =
                slice_get-map body_in z.bodies.functions at ∙ ap (option_map body_in) is ∙ ap (λ f. Some f) same.0
                ∙ sym (ap (λ o. option_map (renumbered g) (option_map body_in o)) was) ∙ sym (ap (option_map (renumbered g)) (slice_get-map body_in t.bodies.functions n));
            rights =
                after_same (suc at) ∙ new_place.next ∙ same.1 ∙ sym old_place.next
                ∙ sym (before_same (suc n));
          }
