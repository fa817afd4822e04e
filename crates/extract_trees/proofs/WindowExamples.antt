-- The worked windows: the parts of each node one by one.
use Rattle.std.proofs.Common.{◌≡◌, refl}
use Rattle.std.specs.Prelude.{pos, false}
use Rattle.go_constants.specs.declared.values.Const.TheVariants as const
use Rattle.go_types.specs.Trees.{TypeTree}
use Rattle.go_types_relations.specs.Renaming.{renamed}
use Rattle.go_typed.specs.Trees.{Sort, SortHas, Every, EveryPart, Typed, typed, Typeds, Nothing, Unknown, Blank, Nil, Builtin, Println, Package, IsType, Value, Constant, Open, OpenConstant, Results}
use Rattle.go_typed.specs.Trees as trees
use Rattle.extract_trees.specs.Examples.{int}
use Rattle.extract_trees.specs.Standing.{AreSettled, nothing_told}
use Rattle.extract_trees.specs.WindowExamples.{WindowExamples, around, sorts, other_sorts, window}

-- ---- what holds of all types

sort_has : (P : TypeTree → Type 0) → ((t : TypeTree) → P t) → (s : Sort TypeTree) → SortHas P s
sort_has P h Nothing = tt
sort_has P h Unknown = tt
sort_has P h Blank = tt
sort_has P h Nil = tt
sort_has P h (Builtin p) = tt
sort_has P h Println = tt
sort_has P h Package = tt
sort_has P h (IsType t) = h t
sort_has P h (Value t) = h t
sort_has P h (Constant t v) = h t
sort_has P h (Open u) = tt
sort_has P h (OpenConstant v) = tt
sort_has P h (Results t) = h t

mutual
  every : (P : TypeTree → Type 0) → ((t : TypeTree) → P t) → (t : Typed TypeTree) → Every P t
  every P h (typed f i j l ps) = (sort_has P h l.sort, every_part P h ps)

  every_part : (P : TypeTree → Type 0) → ((t : TypeTree) → P t) → (ps : Typeds TypeTree) → EveryPart P ps
  every_part P h trees.none = tt
  every_part P h (trees.more p ps) = (every P h p, every_part P h ps)
  every_part P h (trees.skip ps) = every_part P h ps

-- ---- the windows

settled : AreSettled around sorts nothing_told (window 0 1)
settled = (
  (record { holder = refl; stands = refl; other = tt; calls = refl }, ((record { holder = refl; stands = refl; other = tt; calls = refl }, tt), ((record { holder = refl; stands = refl; other = refl; calls = refl }, ((record { holder = refl; stands = refl; other = tt; calls = refl }, tt), (((int, const.Int (pos 1) false, refl), refl), tt))), tt))),
  (
    (record { holder = refl; stands = refl; other = tt; calls = refl }, ((record { holder = refl; stands = refl; other = tt; calls = refl }, ((record { holder = refl; stands = refl; other = tt; calls = refl }, tt), (((int, const.Int (pos 2) false, refl), refl), tt))), ((record { holder = refl; stands = refl; other = tt; calls = refl }, ((record { holder = refl; stands = refl; other = tt; calls = refl }, ((record { holder = refl; stands = refl; other = tt; calls = refl }, tt), tt)), tt)), tt))),
    (
      (record { holder = refl; stands = refl; other = tt; calls = refl }, ((record { holder = refl; stands = refl; other = tt; calls = refl }, tt), ((record { holder = refl; stands = refl; other = tt; calls = refl }, tt), tt))),
      ((record { holder = refl; stands = refl; other = tt; calls = refl }, ((record { holder = refl; stands = refl; other = tt; calls = refl }, tt), ((record { holder = refl; stands = refl; other = tt; calls = refl }, ((record { holder = refl; stands = refl; other = tt; calls = refl }, tt), ((record { holder = refl; stands = refl; other = tt; calls = refl }, (((int, const.Int (pos 3) false, refl), refl), tt)), tt))), tt))), tt),
    ),
  ),
)

other_settled : AreSettled around other_sorts nothing_told (window 2 7)
other_settled = (
  (record { holder = refl; stands = refl; other = tt; calls = refl }, ((record { holder = refl; stands = refl; other = tt; calls = refl }, tt), ((record { holder = refl; stands = refl; other = refl; calls = refl }, ((record { holder = refl; stands = refl; other = tt; calls = refl }, tt), (((int, const.Int (pos 7) false, refl), refl), tt))), tt))),
  (
    (record { holder = refl; stands = refl; other = tt; calls = refl }, ((record { holder = refl; stands = refl; other = tt; calls = refl }, ((record { holder = refl; stands = refl; other = tt; calls = refl }, tt), (((int, const.Int (pos 2) false, refl), refl), tt))), ((record { holder = refl; stands = refl; other = tt; calls = refl }, ((record { holder = refl; stands = refl; other = tt; calls = refl }, ((record { holder = refl; stands = refl; other = tt; calls = refl }, tt), tt)), tt)), tt))),
    (
      (record { holder = refl; stands = refl; other = tt; calls = refl }, ((record { holder = refl; stands = refl; other = tt; calls = refl }, tt), ((record { holder = refl; stands = refl; other = tt; calls = refl }, tt), tt))),
      ((record { holder = refl; stands = refl; other = tt; calls = refl }, ((record { holder = refl; stands = refl; other = tt; calls = refl }, tt), ((record { holder = refl; stands = refl; other = tt; calls = refl }, ((record { holder = refl; stands = refl; other = tt; calls = refl }, tt), ((record { holder = refl; stands = refl; other = tt; calls = refl }, (((int, const.Int (pos 3) false, refl), refl), tt)), tt))), tt))), tt),
    ),
  ),
)

pub window_examples : WindowExamples
window_examples = record {
  settled = settled;
  other_settled = other_settled;
  same = refl;
  constants = refl;
  numbered = record { locals = refl; holes = refl; referents = λ r. refl; types = every_part (λ t. renamed (λ n. n) t ≡ renamed (λ n. n) t) (λ t. refl) (window 0 1) };
}
