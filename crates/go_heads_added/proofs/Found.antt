-- What the files declare where a function is appended to one of them.
use Rattle.std.proofs.Common.{◌≡◌, ℕ, suc, ◌+◌, ◌<◌, ◌≤◌, Bool, true, false, ◌&&◌, ◌||◌, List, [], ◌∷◌, ◌++◌, append_assoc, length, map, refl, sym, ap, ◌∙◌, arith}
use Rattle.std.specs.Prelude.{if◌then◌else◌, nat_eq, nat_lt}
use Rattle.std.specs.List.{AllByRecursion}
use Rattle.std.proofs.lemmas.Bool.Decides.{nat_tests}
use Rattle.go_tree.specs.declared.context.Block.{Block}
use Rattle.go_tree.specs.declared.context.Block.TheVariants as block
use Rattle.go_tree.specs.declared.event.Event.{Event}
use Rattle.go_tree.specs.declared.event.Event.TheVariants as event
use Rattle.go_tokens.specs.Tokens.{TokenList}
use Rattle.go_tree.specs.Units.{Unit, word, bytes_at}
use Rattle.go_tokens.specs.Spellings.{same_text}
use Rattle.go_tree.specs.Declarations.{Found, is_variable, found_in, found_from, found, are_one_block, same_block, is_reused_of, is_reused}
use Rattle.go_heads_added.specs.Added.{to_end, reaching, longer, is_reaching, AreEarlier, IsEarlier, BlockWithin, IsParameter, IsAdded, LiesIn}

found_append : (n : ℕ) (ts : TokenList) (es fs : List Event) → found_in n ts (es ++ fs) ≡ found_in n ts es ++ found_in n ts fs
found_append n ts [] fs = refl
found_append n ts (event.Declaration d ∷ es) fs = ap (λ l. record { file = n; name = word ts d.name; place = bytes_at n ts d.name; it = d } ∷ l) (found_append n ts es fs)
found_append n ts (event.Import p ∷ es) fs = found_append n ts es fs
found_append n ts (event.Use u ∷ es) fs = found_append n ts es fs
found_append n ts (event.Member m g i ∷ es) fs = found_append n ts es fs
found_append n ts (event.Bodiless i j ∷ es) fs = found_append n ts es fs
found_append n ts (event.Statement i j ∷ es) fs = found_append n ts es fs
found_append n ts (event.Misplaced i j ∷ es) fs = found_append n ts es fs
found_append n ts (event.SecondDefault w ∷ es) fs = found_append n ts es fs

pub from_append : (n m : ℕ) (xs ys : List Unit) → m ≡ n + length xs → found_from n (xs ++ ys) ≡ found_from n xs ++ found_from m ys
from_append n m [] ys e = let f : m ≡ n = omega (arith, e) in ap (λ i. found_from i ys) (sym f)
from_append n m (x ∷ xs) ys e =
    ap (λ l. found_in n x.tokens x.events ++ l) (from_append (suc n) m xs ys (omega (arith, e)))
    ∙ sym (append_assoc (found_in n x.tokens x.events) (found_from (suc n) xs) (found_from m ys))

module _ (k end : ℕ) where
  -- a declaration of another file is as it was
  other_longer : (d : Found) → nat_eq d.file k ≡ false → longer k end d ≡ d
  other_longer d h = ap (λ b. record d { it = record d.it { scope = record { from = d.it.scope.from; to = if b && is_reaching d.it then end else d.it.scope.to } } }) h

  others_in : (n : ℕ) (ts : TokenList) (es : List Event) → nat_eq n k ≡ false → map (longer k end) (found_in n ts es) ≡ found_in n ts es
  others_in n ts [] h = refl
  others_in n ts (event.Declaration d ∷ es) h =
      let x : Found = record { file = n; name = word ts d.name; place = bytes_at n ts d.name; it = d } in
      ap (λ y. y ∷ map (longer k end) (found_in n ts es)) (other_longer x h) ∙ ap (λ l. x ∷ l) (others_in n ts es h)
  others_in n ts (event.Import p ∷ es) h = others_in n ts es h
  others_in n ts (event.Use u ∷ es) h = others_in n ts es h
  others_in n ts (event.Member m g i ∷ es) h = others_in n ts es h
  others_in n ts (event.Bodiless i j ∷ es) h = others_in n ts es h
  others_in n ts (event.Statement i j ∷ es) h = others_in n ts es h
  others_in n ts (event.Misplaced i j ∷ es) h = others_in n ts es h
  others_in n ts (event.SecondDefault w ∷ es) h = others_in n ts es h

  map_append : (xs ys : List Found) → map (longer k end) (xs ++ ys) ≡ map (longer k end) xs ++ map (longer k end) ys
  map_append [] ys = refl
  map_append (x ∷ xs) ys = ap (λ l. longer k end x ∷ l) (map_append xs ys)

  front_others : (n : ℕ) (xs : List Unit) → n + length xs ≤ k → map (longer k end) (found_from n xs) ≡ found_from n xs
  front_others n [] h = refl
  front_others n (x ∷ xs) h =
      map_append (found_in n x.tokens x.events) (found_from (suc n) xs)
      ∙ ap (λ l. l ++ map (longer k end) (found_from (suc n) xs)) (others_in n x.tokens x.events (grind (arith, nat_tests)))
      ∙ ap (λ l. found_in n x.tokens x.events ++ l) (front_others (suc n) xs (omega arith))

  pub rest_others : (n : ℕ) (xs : List Unit) → k < n → map (longer k end) (found_from n xs) ≡ found_from n xs
  rest_others n [] h = refl
  rest_others n (x ∷ xs) h =
      map_append (found_in n x.tokens x.events) (found_from (suc n) xs)
      ∙ ap (λ l. l ++ map (longer k end) (found_from (suc n) xs)) (others_in n x.tokens x.events (grind (arith, nat_tests)))
      ∙ ap (λ l. found_in n x.tokens x.events ++ l) (rest_others (suc n) xs (omega arith))

  same_itself : nat_eq k k ≡ true
  same_itself = grind (arith, nat_tests)

  -- the file itself
  own_found : (n : ℕ) (ts us : TokenList) (es : List Event) → AreEarlier n es → ((t : ℕ) → t < n → word us t ≡ word ts t) → ((m t : ℕ) → t < n → bytes_at m us t ≡ bytes_at m ts t)
      → found_in k us (map (reaching end) es) ≡ map (longer k end) (found_in k ts es)
  own_found n ts us [] a w p = refl
  own_found n ts us (event.Declaration d ∷ es) a w p =
      ap (λ l. record { file = k; name = word us d.name; place = bytes_at k us d.name; it = to_end end d } ∷ l) (own_found n ts us es a.1 w p)
      ∙ ap (λ x. record { file = k; name = x; place = bytes_at k us d.name; it = to_end end d } ∷ map (longer k end) (found_in k ts es)) (w d.name a.0)
      ∙ ap (λ x. record { file = k; name = word ts d.name; place = x; it = to_end end d } ∷ map (longer k end) (found_in k ts es)) (p k d.name a.0)
      ∙ ap (λ b. record { file = k; name = word ts d.name; place = bytes_at k ts d.name; it = record d { scope = record { from = d.scope.from; to = if b && is_reaching d then end else d.scope.to } } } ∷ map (longer k end) (found_in k ts es)) (sym same_itself)
  own_found n ts us (event.Import q ∷ es) a w p = own_found n ts us es a w p
  own_found n ts us (event.Use u ∷ es) a w p = own_found n ts us es a.1 w p
  own_found n ts us (event.Member m g i ∷ es) a w p = own_found n ts us es a w p
  own_found n ts us (event.Bodiless i j ∷ es) a w p = own_found n ts us es a w p
  own_found n ts us (event.Statement i j ∷ es) a w p = own_found n ts us es a w p
  own_found n ts us (event.Misplaced i j ∷ es) a w p = own_found n ts us es a w p
  own_found n ts us (event.SecondDefault v ∷ es) a w p = own_found n ts us es a w p

-- ---- the whole package

module _ (k n : ℕ) (name : List ℕ) (old new : List Unit) (h : IsAdded k n name old new) (earlier : AreEarlier n h.a.events) where
  abbrev firsts : List Found
  firsts = found_from 0 h.before ++ found_in k h.a.tokens h.a.events

  abbrev lasts : List Found
  lasts = found_from (suc k) h.behind

  abbrev middle : List Found
  middle = h.longer.function ∷ h.longer.parameters

  pub found_earlier : found old ≡ firsts ++ lasts
  found_earlier =
      ap found h.was ∙ from_append 0 k h.before (h.a ∷ h.behind) (let e = h.place in omega arith)
      ∙ sym (append_assoc (found_from 0 h.before) (found_in k h.a.tokens h.a.events) (found_from (suc k) h.behind))

  pub found_later : found new ≡ map (longer k h.longer.end) firsts ++ (middle ++ map (longer k h.longer.end) lasts)
  found_later =
      let end = h.longer.end in
      ap found h.is ∙ from_append 0 k h.before (h.b ∷ h.behind) (let e = h.place in omega arith)
      ∙ ap (λ l. found_from 0 h.before ++ (l ++ lasts))
      (ap (found_in k h.b.tokens) h.longer.events ∙ found_append k h.b.tokens (map (reaching end) h.a.events) h.longer.added
      ∙ ap (λ l. l ++ found_in k h.b.tokens h.longer.added) (own_found k end n h.a.tokens h.b.tokens h.a.events earlier h.longer.words h.longer.places)
      ∙ ap (λ l. map (longer k end) (found_in k h.a.tokens h.a.events) ++ l) h.longer.declares)
      ∙ ap (λ l. l ++ ((map (longer k end) (found_in k h.a.tokens h.a.events) ++ middle) ++ lasts)) (sym (front_others k end 0 h.before (let e = h.place in omega arith)))
      ∙ ap (λ l. map (longer k end) (found_from 0 h.before) ++ ((map (longer k end) (found_in k h.a.tokens h.a.events) ++ middle) ++ l)) (sym (rest_others k end (suc k) h.behind (omega arith)))
      ∙ regroup (map (longer k end) (found_from 0 h.before)) (map (longer k end) (found_in k h.a.tokens h.a.events)) middle (map (longer k end) lasts)
      ∙ ap (λ l. l ++ (middle ++ map (longer k end) lasts)) (sym (map_append k end (found_from 0 h.before) (found_in k h.a.tokens h.a.events)))
    where
      regroup : (a b c d : List Found) → a ++ ((b ++ c) ++ d) ≡ (a ++ b) ++ (c ++ d)
      regroup a b c d = simp append_assoc

module _ (k n : ℕ) (name : List ℕ) (old new : List Unit) (h : IsAdded k n name old new) (in_trees : LiesIn k n name old new h) where
  abbrev pub front : List Found
  front = found_from 0 h.before ++ found_in k h.a.tokens h.a.events

  abbrev pub rest : List Found
  rest = found_from (suc k) h.behind

  abbrev pub between : List Found
  between = h.longer.function ∷ h.longer.parameters

  pub found_before : found old ≡ front ++ rest
  found_before = found_earlier k n name old new h in_trees.earlier

  pub found_after : found new ≡ map (longer k h.longer.end) front ++ (between ++ map (longer k h.longer.end) rest)
  found_after = found_later k n name old new h in_trees.earlier

  -- ---- the new function's names are reused by none

  and_false : (a b : Bool) → b ≡ false → (a && b) ≡ false
  and_false true b e = e
  and_false false b e = refl

  apart_blocks : (m first : ℕ) (x : Block) → (nat_eq m k ≡ true → BlockWithin n x) → n ≤ first → are_one_block m x k (block.Local first) ≡ false
  apart_blocks m first block.Package w l = refl
  apart_blocks m first (block.Local j) w l = by (nat_eq m k) refl
    where
      by : (b : Bool) → b ≡ nat_eq m k → (b && nat_eq j first) ≡ false
      by true e = let s : j < n = w (sym e) in grind (arith, nat_tests)
      by false e = refl

  apart_parameter : (d x : Found) → IsEarlier k n d → IsParameter k n x → is_reused_of d x ≡ false
  apart_parameter d x e p =
      let one : same_block d x ≡ false = ap (λ b. are_one_block d.file d.it.block x.file b) p.block ∙ ap (λ f. are_one_block d.file d.it.block f (block.Local p.first)) p.file ∙ apart_blocks d.file p.first d.it.block e.block p.later in
      three (is_variable x.it.entity) (nat_lt x.it.name d.it.statement) (same_block d x) (same_text d.name x.name) one
    where
      three : (a b c q : Bool) → c ≡ false → (a && b && c && q) ≡ false
      three true true true q z = cc
      three true true false q z = refl
      three true false c q z = refl
      three false b c q z = refl

  none_reused : (d : Found) (xs : List Found) → IsEarlier k n d → AllByRecursion (IsParameter k n) xs → is_reused d xs ≡ false
  none_reused d [] e a = refl
  none_reused d (x ∷ xs) e a = ap (λ b. b || is_reused d xs) (apart_parameter d x e a.0) ∙ none_reused d xs e a.1

  apart : (d : Found) → IsEarlier k n d → is_reused d between ≡ false
  apart d e =
      ap (λ x. (is_variable x && nat_lt h.longer.function.it.name d.it.statement && same_block d h.longer.function && same_text d.name h.longer.function.name) || is_reused d h.longer.parameters) h.longer.is_function.entity
      ∙ none_reused d h.longer.parameters e h.longer.are_parameters

  pub all_apart : (ds : List Found) → AllByRecursion (IsEarlier k n) ds → AllByRecursion (λ d. is_reused d between ≡ false) ds
  all_apart [] a = tt
  all_apart (d ∷ ds) a = (apart d a.0, all_apart ds a.1)
