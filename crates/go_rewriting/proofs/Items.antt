-- Where tokens with their texts stand after ranges are replaced.
use Rattle.std.proofs.Common.{◌≡◌, ℕ, zero, suc, ◌+◌, ◌-◌, ◌<◌, ◌≤◌, ◌⊎◌, inl, inr, true, List, [], ◌∷◌, ◌++◌, length, take, drop, map, Some, refl, sym, ap, ◌∙◌, subst, arith}
use Rattle.std.specs.Prelude.{slice_get}
use Rattle.std.proofs.lemmas.List.{length-append, length-take-le, length-drop}
use Rattle.go_tokens.specs.declared.token.Token.{Token}
use Rattle.go_tokens.specs.Spellings.{ends_statement_kind}
use Rattle.go_tokens.specs.Tokens.{kinds}
use Rattle.go_tokens.specs.Replacing.{Item, read}
use Rattle.go_rewriting.specs.Replacing.{moved}
use Rattle.go_rewriting.specs.Places.{Outside, Ascending, ranges}
use Rattle.go_rewriting.specs.Endings.{Ending}
use Rattle.go_rewriting.proofs.Changes.{get_front, get_left, get_right, get_drop, low, high}
use Rattle.go_rewriting.specs.Rewriting.{Rewrite, own, words, new_items, changes, rewritten, move, IsRange, ItemsKept}
use Rattle.go_rewriting.proofs.Trees.{change_of}

-- one range of a list
module _ {A : Type 0} (i j : ℕ) (ws us : List A) (order : i < j) (long : j ≤ length us) where
  in_front : (k : ℕ) → k < i → slice_get (take i us ++ (ws ++ drop j us)) k ≡ slice_get us k
  in_front k lt = get_front i us (ws ++ drop j us) k lt (omega (arith, order, long))

  head : length (take i us) ≡ i
  head = length-take-le i us (omega (arith, order, long))

  inside : (k : ℕ) → k < length ws → slice_get (take i us ++ (ws ++ drop j us)) (i + k) ≡ slice_get ws k
  inside k lt =
      let place : length (take i us) + k ≡ i + k = omega (arith, head) in
      ap (slice_get (take i us ++ (ws ++ drop j us))) (sym place) ∙ get_right (take i us) (ws ++ drop j us) k ∙ get_left ws (drop j us) k lt

  behind : (k : ℕ) → j ≤ k → slice_get (take i us ++ (ws ++ drop j us)) (moved j (i + length ws) k) ≡ slice_get us k
  behind k le =
      let place : moved j (i + length ws) k ≡ length (take i us) + (length ws + (k - j)) = omega (arith, head) in
      let back : j + (k - j) ≡ k = omega (arith, le) in
      ap (slice_get (take i us ++ (ws ++ drop j us))) place ∙ get_right (take i us) (ws ++ drop j us) (length ws + (k - j)) ∙ get_right ws (drop j us) (k - j) ∙ get_drop j us (k - j) ∙ ap (slice_get us) back

  far : length (take i us ++ (ws ++ drop j us)) ≡ i + (length ws + (length us - j))
  far =
      let z : length (drop j us) ≡ length us - j = length-drop j us in
      omega (arith, length-append (take i us) (ws ++ drop j us), length-append ws (drop j us), head, z)

length_map : {A B : Type 0} (f : A → B) (xs : List A) → length (map f xs) ≡ length xs
length_map f [] = refl
length_map f (x ∷ xs) = ap suc (length_map f xs)

as_long : (r : Rewrite) → length (words r) ≡ length (new_items r)
as_long r = length_map (λ (t : Token). t.kind) (own r.alone) ∙ sym (length_map (read r.new) (own r.alone))

module _ (us : List Item) where
  record Front (rs : List Rewrite) (i : ℕ) : Type 0 where
    same : (k : ℕ) → k < i → slice_get (rewritten rs us) k ≡ slice_get us k
    long : i ≤ length (rewritten rs us)
    after : (n : ℕ) → i ≤ n → i ≤ move rs n

  front : (rs : List Rewrite) (i : ℕ) → Ascending i (ranges (changes rs)) (length us) → Front rs i
  front [] i h = record { same = λ k lt. refl; long = h; after = λ n le. le }
  front (r ∷ rs) i h =
      let f = front rs r.upto h.2 in
      record {
        same = λ k lt. in_front r.from r.upto (new_items r) (rewritten rs us) h.1 f.long k (omega (arith, lt, h.0)) ∙ f.same k (omega (arith, lt, h.0, h.1));
        long = omega (arith, far r.from r.upto (new_items r) (rewritten rs us) h.1 f.long, h.0);
        after = λ n le. on n le (split n r.from);
      }
    where
      split : (n k : ℕ) → (n ≤ k) ⊎ (k < n)
      split n k = grind arith

      on : (n : ℕ) → i ≤ n → (n ≤ r.from) ⊎ (r.from < n) → i ≤ move (r ∷ rs) n
      on n le (inl lo) = omega (arith, low (change_of r) (changes rs) n lo, le)
      on n le (inr hi) = omega (arith, high (change_of r) (changes rs) n hi, h.0)

  stays : (rs : List Rewrite) (i n : ℕ) → Ascending i (ranges (changes rs)) (length us) → Outside n (ranges (changes rs)) → slice_get (rewritten rs us) (move rs n) ≡ slice_get us n
  stays [] i n h out = refl
  stays (r ∷ rs) i n h (inl lt, out) =
      let f = front rs r.upto h.2 in
      ap (slice_get (rewritten (r ∷ rs) us)) (low (change_of r) (changes rs) n (omega (arith, lt))) ∙ in_front r.from r.upto (new_items r) (rewritten rs us) h.1 f.long n lt ∙ f.same n (omega (arith, lt, h.1))
  stays (r ∷ rs) i n h (inr le, out) =
      let f = front rs r.upto h.2 in
      let place : move (r ∷ rs) n ≡ moved r.upto (r.from + length (new_items r)) (move rs n) = high (change_of r) (changes rs) n (omega (arith, le, h.1)) ∙ ap (λ l. moved r.upto (r.from + l) (move rs n)) (as_long r) in
      ap (slice_get (rewritten (r ∷ rs) us)) place ∙ behind r.from r.upto (new_items r) (rewritten rs us) h.1 f.long (move rs n) (f.after n le) ∙ stays rs r.upto n h.2 out

  later : (rs : List Rewrite) (i k : ℕ) (r : Rewrite) → Ascending i (ranges (changes rs)) (length us) → slice_get rs k ≡ Some r → i ≤ r.from
  later [] i k r h e = cc
  later (y ∷ rs) i zero r h e = let same : y ≡ r = cc in subst (λ (z : Rewrite). i ≤ z.from) same h.0
  later (y ∷ rs) i (suc k) r h e = omega (arith, h.0, h.1, later rs y.upto k r h.2 e)

  stands : (rs : List Rewrite) (i k : ℕ) (r : Rewrite) → Ascending i (ranges (changes rs)) (length us) → slice_get rs k ≡ Some r → (j : ℕ) → j < length (new_items r) → slice_get (rewritten rs us) (move rs r.from + j) ≡ slice_get (new_items r) j
  stands [] i k r h e j lt = cc
  stands (y ∷ rs) i zero r h e j lt =
      let same : y ≡ r = cc in
      let f = front rs y.upto h.2 in
      subst (λ (z : Rewrite). (l : ℕ) → l < length (new_items z) → slice_get (rewritten (y ∷ rs) us) (move (y ∷ rs) z.from + l) ≡ slice_get (new_items z) l) same
      (λ l less. ap (λ p. slice_get (rewritten (y ∷ rs) us) (p + l)) (low (change_of y) (changes rs) y.from (omega arith)) ∙ inside y.from y.upto (new_items y) (rewritten rs us) h.1 f.long l less) j lt
  stands (y ∷ rs) i (suc k) r h e j lt =
      let f = front rs y.upto h.2 in
      let on : y.upto ≤ r.from = later rs y.upto k r h.2 e in
      let up : y.upto ≤ move rs r.from = f.after r.from on in
      let here : move (y ∷ rs) r.from ≡ moved y.upto (y.from + length (words y)) (move rs r.from) = high (change_of y) (changes rs) r.from (omega (arith, on, h.1)) in
      let place : move (y ∷ rs) r.from + j ≡ moved y.upto (y.from + length (new_items y)) (move rs r.from + j) = omega (arith, here, as_long y, up) in
      ap (slice_get (rewritten (y ∷ rs) us)) place ∙ behind y.from y.upto (new_items y) (rewritten rs us) h.1 f.long (move rs r.from + j) (omega (arith, up)) ∙ stands rs y.upto k r h.2 e j lt

  pub items_kept : (rs : List Rewrite) → Ascending 0 (ranges (changes rs)) (length us) → ItemsKept rs us
  items_kept rs h = record { stay = λ n out. stays rs 0 n h out; stand = λ k r e j lt. stands rs 0 k r h e j lt }

get_map : {A B : Type 0} (f : A → B) (xs : List A) (n : ℕ) (x : A) → slice_get xs n ≡ Some x → slice_get (map f xs) n ≡ Some (f x)
get_map f [] n x e = cc
get_map f (y ∷ xs) zero x e = let same : y ≡ x = cc in ap (λ z. Some (f z)) same
get_map f (y ∷ xs) (suc n) x e = get_map f xs n x e

-- a range that ends well ends with a token that does
pub range_ends : (ts : List Token) (from upto start end : ℕ) (r : IsRange ts from upto start end) → Ending (kinds ts) upto → ends_statement_kind r.last.kind ≡ true
range_ends ts from upto start end r e =
    let place : upto - 1 ≡ e.place = omega (arith, e.next) in
    let here : Some r.last.kind ≡ Some e.word = sym (get_map (λ (t : Token). t.kind) ts (upto - 1) r.last r.has_last) ∙ ap (slice_get (kinds ts)) place ∙ e.is in
    let same : r.last.kind ≡ e.word = cc in
    ap ends_statement_kind same ∙ e.ends
