-- Declarations that are marked as found behind what they name are staged.
use Rattle.std.proofs.Common.{◌≡◌, ℕ, Bool, true, false, List, [], length, Option, Some, None, sym, subst}
use Rattle.std.specs.Prelude.{slice_get}
use Rattle.std.proofs.lemmas.List.{length-map}
use Rattle.go_grammar.specs.Trees.{Tree}
use Rattle.go_tree.specs.Uses.{UsesView, object_of}
use Rattle.go_needs.specs.declared.bounds.Bound.{Bound}
use Rattle.go_needs.specs.Bounds.{AreBounds}
use Rattle.go_package_defs.specs.Declarations.{Specification}
use Rattle.go_package_defs.specs.Knowledge.{Outline, State, is_type, outlines, outline_by, declaring, rights_of}
use Rattle.go_package_defs.specs.Sources.{Package}
use Rattle.go_package_defs.specs.Verdicts.{own_value, next_states}
use Rattle.go_package_laws.proofs.Public.{each_more, needs_more}
use Rattle.go_package_laws.specs.Ranks.{Ranks, NeedBefore, NeedsBefore, AreAtMost}
use Rattle.go_package_laws.specs.Stages.{StageBefore, NamesStaged, told_stages, own_stages, IsStagedAs, AreStaged}
use Rattle.go_exprs_rules.specs.Scopes.{Needed, in_full, type_place}
use Rattle.go_package_stages.specs.Marks.{is_before}
use Rattle.go_package_stages.specs.Names.{IsFullBefore, ways_before}
use Rattle.go_package_stages.specs.declared.marked.Trial.{Trial}
use Rattle.go_package_stages.specs.declared.numbers.Numbers.{Numbers}
use Rattle.go_package_stages.specs.Numbers.{ranks_in, at_most, types_told}
use Rattle.go_package_stages.specs.Marked.{AreReached, AreClosed, marks_from, NamesMarked, TypeMarked, IsMarkedAs}
use Rattle.go_package_stages.proofs.StageMarks.{number_most, type_told}
use Rattle.go_package_stages.proofs.Objects.{need_before, types_before}

pub outlines_many : (p : Package) (ds : List Specification) → length (outlines p ds) ≡ length p.uses.package_level
outlines_many p ds = length-map p.uses.package_level (λ d. outline_by p d (declaring ds d.file d.name))

-- Of a trial: its marks are made by bounds that are right.
pub record IsTried (t : Trial) (os : List Outline) (rs : List ℕ) (in_told in_own : List Bound) : Type 0 where
  pub own : t.own.now ≡ marks_from t.numbers.now.stands.items rs 0 in_own
  pub told : t.told.now ≡ marks_from t.numbers.now.stands.items [] 0 in_told
  pub counted : t.counted.now ≡ marks_from t.numbers.now.stands.items rs 0 in_told
  pub own_bounds : AreBounds t.numbers.now.own.items in_own os
  pub told_bounds : AreBounds t.numbers.now.told.items in_told os
  pub own_many : length in_own ≡ length os
  pub told_many : length in_told ≡ length os

module _ (p : Package) (os : List Outline) (found : List State) (t : Trial) (uses : p.uses ≡ t.uses.now) (rs : List ℕ) (stood : AreReached t.numbers.now.reach.items rs found) (closed : AreClosed t.numbers.now.reach.items (rights_of p found))
    (in_told in_own : List Bound) (a : IsTried t os rs in_told in_own) where
  abbrev s : Ranks
  s = ranks_in t.numbers.now

  abbrev x : Numbers
  x = t.numbers.now

  own_stage : (file k : ℕ) (i : ℕ) → IsFullBefore t.uses.now file t.own.now k i → StageBefore os found s s.own k in_full (object_of p.uses file i)
  own_stage file k i h =
      let here = subst (λ ms. IsFullBefore t.uses.now file ms k i) a.own h in
      let there = subst (λ (u : UsesView). IsFullBefore u file (marks_from x.stands.items rs 0 in_own) k i) (sym uses) here in (
        need_before x.stands.items x.own.items rs in_own os a.own_bounds a.own_many k in_full (object_of p.uses file i) there,
        types_before x.stands.items x.own.items rs in_own os a.own_bounds a.own_many k found x stood in_full (object_of p.uses file i) there,
      )

  names_staged : (k : ℕ) (d : Specification) (o : Option Tree) → NamesMarked t d.file k o → NamesStaged p os found s k d o
  names_staged k d None h = tt
  names_staged k d (Some z) h =
      each_more (IsFullBefore t.uses.now d.file t.own.now k) (λ i. StageBefore os found s s.own k in_full (object_of p.uses d.file i)) (λ i q. own_stage d.file k i q) z h

  counted_stage : (file k : ℕ) (i : ℕ) → IsFullBefore t.uses.now file t.counted.now k i → StageBefore os found s s.told k in_full (object_of p.uses file i)
  counted_stage file k i h =
      let here = subst (λ ms. IsFullBefore t.uses.now file ms k i) a.counted h in
      let there = subst (λ (u : UsesView). IsFullBefore u file (marks_from x.stands.items rs 0 in_told) k i) (sym uses) here in (
        need_before x.stands.items x.told.items rs in_told os a.told_bounds a.told_many k in_full (object_of p.uses file i) there,
        types_before x.stands.items x.told.items rs in_told os a.told_bounds a.told_many k found x stood in_full (object_of p.uses file i) there,
      )

  told_need : (file k : ℕ) (n : Needed) (i : ℕ) → is_before t.told.now k n (object_of t.uses.now file i) ≡ true → NeedBefore os s.told s.stand k n (object_of p.uses file i)
  told_need file k n i h =
      let here = subst (λ ms. is_before ms k n (object_of t.uses.now file i) ≡ true) a.told h in
      let there = subst (λ (u : UsesView). is_before (marks_from x.stands.items [] 0 in_told) k n (object_of u file i) ≡ true) (sym uses) here in
      need_before x.stands.items x.told.items [] in_told os a.told_bounds a.told_many k n (object_of p.uses file i) there

  own_need : (file k : ℕ) (n : Needed) (i : ℕ) → is_before t.own.now k n (object_of t.uses.now file i) ≡ true → StageBefore os found s s.own k n (object_of p.uses file i)
  own_need file k n i h =
      let here = subst (λ ms. is_before ms k n (object_of t.uses.now file i) ≡ true) a.own h in
      let there = subst (λ (u : UsesView). is_before (marks_from x.stands.items rs 0 in_own) k n (object_of u file i) ≡ true) (sym uses) here in (
        need_before x.stands.items x.own.items rs in_own os a.own_bounds a.own_many k n (object_of p.uses file i) there,
        types_before x.stands.items x.own.items rs in_own os a.own_bounds a.own_many k found x stood n (object_of p.uses file i) there,
      )

  told_staged : (k : ℕ) (d : Specification) (o : Option Tree) → TypeMarked t t.told.now t.counted.now d.file k o → NeedsBefore p os found s (told_stages p os found s k d) o
  told_staged k d None h = tt
  told_staged k d (Some z) h =
      needs_more (ways_before t.uses.now d.file t.told.now t.uses.now t.counted.now k) (told_stages p os found s k d)
      (λ n i q. told_need d.file k n i q) (λ i q. counted_stage d.file k i q) (λ i q. absurd q) type_place z h

  own_staged : (k : ℕ) (d : Specification) (o : Option Tree) → TypeMarked t t.own.now t.own.now d.file k o → NeedsBefore p os found s (own_stages p os found s k d) o
  own_staged k d None h = tt
  own_staged k d (Some z) h =
      needs_more (ways_before t.uses.now d.file t.own.now t.uses.now t.own.now k) (own_stages p os found s k d)
      (λ n i q. own_need d.file k n i q) (λ i q. own_stage d.file k i q) (λ i q. absurd q) type_place z h

  staged_as : (n : ℕ) (o : Outline) (b : Bool) → IsMarkedAs t n o b → IsStagedAs p os found s n o b
  staged_as n o true h = record {
    later = h.later;
    first = h.first;
    right = h.right;
    of = told_staged (s.told n) o.specification o.specification.type_tree h.of;
    limits = own_staged (s.own n) o.specification o.specification.type_tree h.limits;
  }
  staged_as n o false h = record {
    later = h.later;
    stands = h.stands;
    right = h.right;
    of = names_staged (s.own n) o.specification o.specification.type_tree h.of;
    value = names_staged (s.own n) o.specification (own_value o.specification o.column) h.value;
  }

  pub all_staged : length p.uses.package_level ≡ length os → next_states p os found 0 os ≡ found → ((n : ℕ) (o : Outline) → slice_get os n ≡ Some o → IsMarkedAs t n o (is_type o.specification.entity))
      → types_told x 0 0 p.uses.package_level ≡ true → AreStaged p os found s
  all_staged many same each told = record {
    declared = many;
    same = same;
    each = λ n o e. staged_as n o (is_type o.specification.entity) (each n o e);
    reaches = λ u n e. type_told x p.uses.package_level told u n e;
    closed = closed;
  }

pub none_above : (x : Numbers) (k : ℕ) → at_most k x.stands.items ≡ true → at_most k x.told.items ≡ true → at_most k x.own.items ≡ true → AreAtMost (ranks_in x) k
none_above x k f g h = record { stand = λ n. number_most k x.stands.items f n; told = λ n. number_most k x.told.items g n; own = λ n. number_most k x.own.items h n }
