-- What a turn of a loop adds, where rows are made place by place.
use Rattle.std.proofs.Common.{◌≡◌, ◌∙◌, ℕ, suc, ◌+◌, ◌<◌, Bool, true, false, List, [], ◌∷◌, ◌++◌, length, map, drop, get_or, sym, ap, arith}
use Rattle.std.proofs.lemmas.List.{append_assoc, drop_more, map-append}
use Rattle.std.specs.Prelude.{◌||◌, if◌then◌else◌}
use Rattle.go_typed.specs.Trees.{Sort}
use Rattle.param_choose.specs.declared.holes.Hole.{Hole as FoundHole}
use Rattle.param_choose.specs.Choosing.{HoleParameter, parameter_of}
use Rattle.param_choose.specs.Holes.{Hole}
use Rattle.param_choose.specs.Locals.{Variable, variable_at}
use Rattle.param_choose.specs.Marks.{mark_at, parameters_by, variables_by}
use Rattle.param_choose.specs.Handed.{HandedHole, handed_hole}
use Rattle.param_choose.specs.Shown.{hole_view, holes_view}

left-over : {X : Type 0} (xs : List X) (j : ℕ) (x d : X) → j < length xs → x ≡ get_or xs j d → drop j xs ≡ x ∷ drop (j + 1) xs
left-over xs j x d l e = drop_more xs j d l ∙ ap (λ y. y ∷ drop (j + 1) xs) (sym e)

one-more : (i : ℕ) → suc i ≡ i + 1
one-more i = omega arith

-- ---- variables

variables-next : (sorts : List (Sort ℕ)) (bs : List Bool) (ks : List ℕ) (i j k d : ℕ) (b : Bool) → j < length ks → k ≡ get_or ks j d → mark_at bs i ≡ b →
    variables_by sorts bs i (drop j ks) ≡ (if b then variable_at sorts k else []) ++ variables_by sorts bs (i + 1) (drop (j + 1) ks)
variables-next sorts bs ks i j k d b l e m =
    ap (variables_by sorts bs i) (left-over ks j k d l e)
    ∙ ap (λ a. (if a then variable_at sorts k else []) ++ variables_by sorts bs (suc i) (drop (j + 1) ks)) m
    ∙ ap (λ n. (if b then variable_at sorts k else []) ++ variables_by sorts bs n (drop (j + 1) ks)) (one-more i)

pub variable_taken : (sorts : List (Sort ℕ)) (bs : List Bool) (ks : List ℕ) (i j k d : ℕ) (all before now : List (Variable ℕ)) →
    j < length ks → k ≡ get_or ks j d → mark_at bs i ≡ true → now ≡ before ++ variable_at sorts k →
    all ≡ before ++ variables_by sorts bs i (drop j ks) → all ≡ now ++ variables_by sorts bs (i + 1) (drop (j + 1) ks)
variable_taken sorts bs ks i j k d all before now l e m n a =
    let rest = variables_by sorts bs (i + 1) (drop (j + 1) ks) in
    a
    ∙ ap (λ vs. before ++ vs) (variables-next sorts bs ks i j k d true l e m)
    ∙ sym (append_assoc before (variable_at sorts k) rest)
    ∙ ap (λ vs. vs ++ rest) (sym n)

pub variable_left : (sorts : List (Sort ℕ)) (bs : List Bool) (ks : List ℕ) (i j k d : ℕ) (all before now : List (Variable ℕ)) →
    j < length ks → k ≡ get_or ks j d → mark_at bs i ≡ false → now ≡ before →
    all ≡ before ++ variables_by sorts bs i (drop j ks) → all ≡ now ++ variables_by sorts bs (i + 1) (drop (j + 1) ks)
variable_left sorts bs ks i j k d all before now l e m n a =
    a
    ∙ ap (λ vs. before ++ vs) (variables-next sorts bs ks i j k d false l e m)
    ∙ ap (λ vs. vs ++ variables_by sorts bs (i + 1) (drop (j + 1) ks)) (sym n)

-- ---- holes

holes-next : (outer : Hole ℕ → Bool) (start : ℕ) (bs : List Bool) (hs : List FoundHole) (i j : ℕ) (h : FoundHole) (b : Bool) →
    j < length hs → h ≡ get_or hs j h → (mark_at bs i || outer (hole_view h)) ≡ b →
    parameters_by outer start bs i (holes_view (drop j hs))
    ≡ (if b then parameter_of start i (hole_view h) else []) ++ parameters_by outer start bs (i + 1) (holes_view (drop (j + 1) hs))
holes-next outer start bs hs i j h b l e m =
    let p = parameter_of start i (hole_view h) in
    let rest = holes_view (drop (j + 1) hs) in
    ap (λ gs. parameters_by outer start bs i (holes_view gs)) (left-over hs j h h l e)
    ∙ ap (λ a. (if a then p else []) ++ parameters_by outer start bs (suc i) rest) m
    ∙ ap (λ n. (if b then p else []) ++ parameters_by outer start bs n rest) (one-more i)

pub hole_taken : (outer : Hole ℕ → Bool) (start : ℕ) (bs : List Bool) (hs : List FoundHole) (i j : ℕ) (h : FoundHole) (all before now : List (HandedHole ℕ)) →
    j < length hs → h ≡ get_or hs j h → (mark_at bs i || outer (hole_view h)) ≡ true → now ≡ before ++ map handed_hole (parameter_of start i (hole_view h)) →
    all ≡ before ++ map handed_hole (parameters_by outer start bs i (holes_view (drop j hs))) →
    all ≡ now ++ map handed_hole (parameters_by outer start bs (i + 1) (holes_view (drop (j + 1) hs)))
hole_taken outer start bs hs i j h all before now l e m n a =
    let own = parameter_of start i (hole_view h) in
    let rest = parameters_by outer start bs (i + 1) (holes_view (drop (j + 1) hs)) in
    a
    ∙ ap (λ ps. before ++ map handed_hole ps) (holes-next outer start bs hs i j h true l e m)
    ∙ ap (λ ps. before ++ ps) (map-append handed_hole own rest)
    ∙ sym (append_assoc before (map handed_hole own) (map handed_hole rest))
    ∙ ap (λ ps. ps ++ map handed_hole rest) (sym n)

pub hole_left : (outer : Hole ℕ → Bool) (start : ℕ) (bs : List Bool) (hs : List FoundHole) (i j : ℕ) (h : FoundHole) (all before now : List (HandedHole ℕ)) →
    j < length hs → h ≡ get_or hs j h → (mark_at bs i || outer (hole_view h)) ≡ false → now ≡ before →
    all ≡ before ++ map handed_hole (parameters_by outer start bs i (holes_view (drop j hs))) →
    all ≡ now ++ map handed_hole (parameters_by outer start bs (i + 1) (holes_view (drop (j + 1) hs)))
hole_left outer start bs hs i j h all before now l e m n a =
    let rest = parameters_by outer start bs (i + 1) (holes_view (drop (j + 1) hs)) in
    a
    ∙ ap (λ ps. before ++ map handed_hole ps) (holes-next outer start bs hs i j h false l e m)
    ∙ ap (λ ps. ps ++ map handed_hole rest) (sym n)

-- ---- marked, or passing a test

pub or_marked : (a b : Bool) → a ≡ true → (a || b) ≡ true
or_marked a b e = ap (λ x. x || b) e

pub or_tested : (a b c : Bool) → a ≡ false → b ≡ c → (a || b) ≡ c
or_tested a b c e f = ap (λ x. x || b) e ∙ f
