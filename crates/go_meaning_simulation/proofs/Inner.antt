-- Nodes all of whose parts are expressions: what they do follows from what their parts do, one case for each plan.
use Rattle.std.proofs.Common.{◌≡◌, ℕ, ◌<◌, List, [], ◌∷◌, take, drop}
use Rattle.std.specs.Prelude.{pos, Bool, true, false, nat_lt}
use Rattle.std.proofs.lemmas.Bool.{lt-ltb}
use Rattle.go_meaning.specs.Values.{Value, Truth, Whole, nth, is_true}
use Rattle.go_meaning.specs.Computations.{Comp, give, one, choose, each}
use Rattle.go_meaning.specs.Operations.{Field, Element, operate}
use Rattle.go_meaning.specs.Plans.{Plan, Give, Local, Variable, Declare, Ignore, Inner, FieldOf, ElementOf, CellOf, Perform, Both, Either, Apply, StepBy, OperateBy, AssignTo, ZeroTo, Skip, Returns, Breaks, Continues, Falls, Sequence, Branch, Select, CaseOf, Otherwise, Iterate}
use Rattle.go_meaning.specs.Doings.{Doing, plain, values_of, at, field_place, element_place, assigned, operated, applied, act}
use Rattle.go_meaning.proofs.Public.{Grows, give_grows, operate_grows, choose_grows, field_grown, element_grown, applied_grows}
use Rattle.go_meaning_simulation.specs.Likeness.{Likeness}
use Rattle.go_meaning_simulation.specs.Kin.{is_inner, modes}
use Rattle.go_meaning_simulation.proofs.Following.{Frames, Exits}
use Rattle.go_meaning_simulation.proofs.Expressions.{Like, Valued, Asked, met_asked, AllAsked, asked_values, asked_at, value_at, asked_take, asked_drop, give_like, operate_like, one_like, each_like, choose_like, plain_met, field_met, element_met, cell_met, assigned_like, operated_like, applied_like}

module _ (L : Likeness) (a p q : ℕ) (R : Frames) (X : Exits) where
  field_asked : (n : ℕ) (b : Bool) (x x' : Doing) → Asked L a p q R X b x x' → Asked L a p q R X b (field_place n x) (field_place n x')
  field_asked n true x x' h = field_met L a p q R X n x x' h
  field_asked n false x x' h = record {
    grown = field_grown n x' h.grown;
    value = one_like L a p q R X x.value x'.value (λ v. operate (Field n) (v ∷ [])) (λ v. operate (Field n) (v ∷ [])) h.value (λ v. operate_grows (Field n) (v ∷ [])) (λ v v' e. operate_like L a p q R X (Field n) (v ∷ []) (v' ∷ []) e);
  }

  element_asked : (n : ℕ) (b : Bool) (x x' i i' : Doing) → Asked L a p q R X b x x' → Valued L a p q R X i i' → Asked L a p q R X b (element_place n x i) (element_place n x' i')
  element_asked n true x x' i i' h hi = element_met L a p q R X n x x' i i' h hi
  element_asked n false x x' i i' h hi = record {
    grown = element_grown n x' i' h.grown hi.grown;
    value = each_like L a p q R X (x.value ∷ i.value ∷ []) (x'.value ∷ i'.value ∷ []) (operate (Element n)) (operate (Element n)) (h.value, (hi.value, tt)) (operate_grows (Element n)) (operate_like L a p q R X (Element n));
  }

  module _ (call call' : ℕ → List Value → Comp) (hg : (g : ℕ) (vs : List Value) → Grows (call' g vs)) (hc : (g g' : ℕ) (vs vs' : List Value) → L.calls g g' → L.values vs vs' → Like L a p q R X (call g vs) (call' g' vs')) where
    calls_grow : (vs : List Value) → Grows (applied call' (nth vs 0) (drop 1 vs))
    calls_grow vs = applied_grows call' hg (nth vs 0) (drop 1 vs)

    both_like : (x x' y y' : Doing) → Valued L a p q R X x x' → Valued L a p q R X y y' → Like L a p q R X (one x.value (λ v. choose (is_true v) y.value (give (Truth false ∷ [])))) (one x'.value (λ v. choose (is_true v) y'.value (give (Truth false ∷ []))))
    both_like x x' y y' h k =
        one_like L a p q R X x.value x'.value (λ v. choose (is_true v) y.value (give (Truth false ∷ []))) (λ v. choose (is_true v) y'.value (give (Truth false ∷ []))) h.value (λ v. choose_grows (is_true v) y'.value (give (Truth false ∷ [])) k.value.grows (give_grows (Truth false ∷ [])))
        (λ v v' e. choose_like L a p q R X (is_true v) (is_true v') y.value y'.value (give (Truth false ∷ [])) (give (Truth false ∷ [])) (L.truths v v' e) k.value (give_like L a p q R X (Truth false ∷ []) (Truth false ∷ []) (L.truth false)))

    either_like : (x x' y y' : Doing) → Valued L a p q R X x x' → Valued L a p q R X y y' → Like L a p q R X (one x.value (λ v. choose (is_true v) (give (Truth true ∷ [])) y.value)) (one x'.value (λ v. choose (is_true v) (give (Truth true ∷ [])) y'.value))
    either_like x x' y y' h k =
        one_like L a p q R X x.value x'.value (λ v. choose (is_true v) (give (Truth true ∷ [])) y.value) (λ v. choose (is_true v) (give (Truth true ∷ [])) y'.value) h.value (λ v. choose_grows (is_true v) (give (Truth true ∷ [])) y'.value (give_grows (Truth true ∷ [])) k.value.grows)
        (λ v v' e. choose_like L a p q R X (is_true v) (is_true v') (give (Truth true ∷ [])) (give (Truth true ∷ [])) y.value y'.value (L.truths v v' e) (give_like L a p q R X (Truth true ∷ []) (Truth true ∷ []) (L.truth true)) k.value)

    asks_places : (n k : ℕ) → k < n → nat_lt k n ≡ true
    asks_places n k lt = lt-ltb k n lt

    pub inner_asked : (t : Plan) (b : Bool) → is_inner t ≡ true → (xs xs' : List Doing) → AllAsked L a p q R X (modes t b) xs xs' → Asked L a p q R X b (act call t xs) (act call' t xs')
    unfolding act
    inner_asked Inner b e xs xs' h = asked_at L a p q R X (modes Inner b) xs xs' 0 h
    inner_asked (FieldOf n) b e xs xs' h = field_asked n b (at xs 0) (at xs' 0) (asked_at L a p q R X (modes (FieldOf n) b) xs xs' 0 h)
    inner_asked (ElementOf n) b e xs xs' h = element_asked n b (at xs 0) (at xs' 0) (at xs 1) (at xs' 1) (asked_at L a p q R X (modes (ElementOf n) b) xs xs' 0 h) (asked_at L a p q R X (modes (ElementOf n) b) xs xs' 1 h)
    inner_asked CellOf b e xs xs' h = met_asked L a p q R X b (act call CellOf xs) (act call' CellOf xs') (cell_met L a p q R X (at xs 0) (at xs' 0) (at xs 1) (at xs' 1) (value_at L a p q R X (modes CellOf b) xs xs' 0 h) (value_at L a p q R X (modes CellOf b) xs xs' 1 h))
    inner_asked (Perform o) b e xs xs' h =
        met_asked L a p q R X b (plain (each (values_of xs) (operate o))) (plain (each (values_of xs') (operate o))) (plain_met L a p q R X (each (values_of xs) (operate o)) (each (values_of xs') (operate o))
        (each_like L a p q R X (values_of xs) (values_of xs') (operate o) (operate o) (asked_values L a p q R X (modes (Perform o) b) xs xs' h) (operate_grows o) (operate_like L a p q R X o)))
    inner_asked Both b e xs xs' h =
        met_asked L a p q R X b (act call Both xs) (act call' Both xs') (plain_met L a p q R X (one (at xs 0).value (λ v. choose (is_true v) (at xs 1).value (give (Truth false ∷ [])))) (one (at xs' 0).value (λ v. choose (is_true v) (at xs' 1).value (give (Truth false ∷ []))))
        (both_like (at xs 0) (at xs' 0) (at xs 1) (at xs' 1) (value_at L a p q R X (modes Both b) xs xs' 0 h) (value_at L a p q R X (modes Both b) xs xs' 1 h)))
    inner_asked Either b e xs xs' h =
        met_asked L a p q R X b (act call Either xs) (act call' Either xs') (plain_met L a p q R X (one (at xs 0).value (λ v. choose (is_true v) (give (Truth true ∷ [])) (at xs 1).value)) (one (at xs' 0).value (λ v. choose (is_true v) (give (Truth true ∷ [])) (at xs' 1).value))
        (either_like (at xs 0) (at xs' 0) (at xs 1) (at xs' 1) (value_at L a p q R X (modes Either b) xs xs' 0 h) (value_at L a p q R X (modes Either b) xs xs' 1 h)))
    inner_asked Apply b e xs xs' h =
        met_asked L a p q R X b (act call Apply xs) (act call' Apply xs') (plain_met L a p q R X (each (values_of xs) (λ vs. applied call (nth vs 0) (drop 1 vs))) (each (values_of xs') (λ vs. applied call' (nth vs 0) (drop 1 vs)))
        (each_like L a p q R X (values_of xs) (values_of xs') (λ vs. applied call (nth vs 0) (drop 1 vs)) (λ vs. applied call' (nth vs 0) (drop 1 vs)) (asked_values L a p q R X (modes Apply b) xs xs' h) calls_grow
        (λ vs vs' k. applied_like L a p q R X call call' hc (L.called (nth vs 0) (nth vs' 0) (L.picks 0 vs vs' k)) (drop 1 vs) (drop 1 vs') (L.rests 1 vs vs' k))))
    inner_asked (StepBy o) b e xs xs' h =
        met_asked L a p q R X b (act call (StepBy o) xs) (act call' (StepBy o) xs') (plain_met L a p q R X (operated o (at xs 0) (give (Whole (pos 1) ∷ []))) (operated o (at xs' 0) (give (Whole (pos 1) ∷ [])))
        (operated_like L a p q R X o (at xs 0) (at xs' 0) (give (Whole (pos 1) ∷ [])) (give (Whole (pos 1) ∷ [])) (asked_at L a p q R X (modes (StepBy o) b) xs xs' 0 h) (give_like L a p q R X (Whole (pos 1) ∷ []) (Whole (pos 1) ∷ []) (L.number (pos 1)))))
    inner_asked (OperateBy o) b e xs xs' h =
        met_asked L a p q R X b (act call (OperateBy o) xs) (act call' (OperateBy o) xs') (plain_met L a p q R X (operated o (at xs 0) (at xs 1).value) (operated o (at xs' 0) (at xs' 1).value)
        (operated_like L a p q R X o (at xs 0) (at xs' 0) (at xs 1).value (at xs' 1).value (asked_at L a p q R X (modes (OperateBy o) b) xs xs' 0 h) (value_at L a p q R X (modes (OperateBy o) b) xs xs' 1 h).value))
    inner_asked (AssignTo n) b e xs xs' h =
        met_asked L a p q R X b (act call (AssignTo n) xs) (act call' (AssignTo n) xs') (plain_met L a p q R X (assigned (take n xs) (each (values_of (drop n xs)) give)) (assigned (take n xs') (each (values_of (drop n xs')) give))
        (assigned_like L a p q R X (take n xs) (take n xs') (each (values_of (drop n xs)) give) (each (values_of (drop n xs')) give) (asked_take L a p q R X (modes (AssignTo n) b) n xs xs' (asks_places n) h)
        (each_like L a p q R X (values_of (drop n xs)) (values_of (drop n xs')) give give (asked_drop L a p q R X (modes (AssignTo n) b) n xs xs' h) give_grows (give_like L a p q R X))))
    inner_asked (Give v) b e xs xs' h = absurd cc
    inner_asked (Local n) b e xs xs' h = absurd cc
    inner_asked (Variable n) b e xs xs' h = absurd cc
    inner_asked (Declare n) b e xs xs' h = absurd cc
    inner_asked Ignore b e xs xs' h = absurd cc
    inner_asked (ZeroTo n z) b e xs xs' h = absurd cc
    inner_asked Skip b e xs xs' h = absurd cc
    inner_asked Returns b e xs xs' h = absurd cc
    inner_asked Breaks b e xs xs' h = absurd cc
    inner_asked Continues b e xs xs' h = absurd cc
    inner_asked Falls b e xs xs' h = absurd cc
    inner_asked Sequence b e xs xs' h = absurd cc
    inner_asked Branch b e xs xs' h = absurd cc
    inner_asked (Select tag other) b e xs xs' h = absurd cc
    inner_asked (CaseOf n) b e xs xs' h = absurd cc
    inner_asked Otherwise b e xs xs' h = absurd cc
    inner_asked (Iterate n items) b e xs xs' h = absurd cc
