-- The items of a text in parts, as the old ones with ranges exchanged.
use Rattle.std.proofs.Common.{◌≡◌, ℕ, zero, suc, ◌+◌, ◌≤◌, true, false, ◌&&◌, List, [], ◌∷◌, ◌++◌, length, take, drop, map, refl, sym, ap, ◌∙◌, subst, append_assoc, arith}
use Rattle.std.specs.Str.{encode_utf8_all}
use Rattle.std.proofs.lemmas.List.{length-append, take_at, drop_at, map-append, take-map}
use Rattle.go_tokens.specs.declared.token.TokenKind.{TokenKind}
use Rattle.go_tokens.specs.declared.token.Token.{Token}
use Rattle.go_tokens.specs.Tokens.{kinds}
use Rattle.go_tokens.specs.Lexing.{token_kind, ends_statement, line_ends}
use Rattle.go_tokens.specs.Replacing.{Item, read, semicolon, items, pieces_of, Part, Kept, Replaced, old_pieces, Fits, spliced}
use Rattle.go_tokens.proofs.Public.{old_blanks}
use Rattle.go_rewriting.specs.Places.{Range as RangeOf, Ascending, Change, changed, ranges}
use Rattle.go_rewriting.specs.Rewriting.{Rewrite, own, words, new_items, rewritten, changes}
use Rattle.go_rewriting.proofs.Numbers.{range_items}

-- items from one place up to another, and those in place of them
pub record Swap : Type 0 where
  pub from : ℕ
  pub upto : ℕ
  pub items : List Item

abbrev pub swapped : List Swap → List Item → List Item
swapped [] us = us
swapped (x ∷ xs) us = take x.from (swapped xs us) ++ (x.items ++ drop x.upto (swapped xs us))

-- what is exchanged in a text in parts that begins behind so many items
abbrev pub swaps_of : ℕ → List Part → List Swap
swaps_of n [] = []
swaps_of n (Kept ps ∷ parts) = swaps_of (n + length (items ps (line_ends (old_pieces parts) true))) parts
swaps_of n (Replaced a b ∷ parts) =
    record { from = n; upto = n + length (items (pieces_of a) false); items = items (pieces_of b) false }
    ∷ swaps_of (n + length (items (pieces_of a) false ++ semicolon (ends_statement a.last && line_ends (old_pieces parts) true))) parts

abbrev pub swaps : List Rewrite → List Swap
swaps [] = []
swaps (r ∷ rs) = record { from = r.from; upto = r.upto; items = new_items r } ∷ swaps rs

pub rewritten_swaps : (rs : List Rewrite) (us : List Item) → swapped (swaps rs) us ≡ rewritten rs us
rewritten_swaps [] us = refl
rewritten_swaps (r ∷ rs) us = ap (λ l. take r.from l ++ (new_items r ++ drop r.upto l)) (rewritten_swaps rs us)

pub spliced_swapped : (parts : List Part) (pre : List Item) (n : ℕ) → n ≡ length pre → swapped (swaps_of n parts) (pre ++ spliced (λ old new. old) parts) ≡ pre ++ spliced (λ old new. new) parts
spliced_swapped [] pre n e = refl
spliced_swapped (Kept ps ∷ parts) pre n e =
    let here : List Item = items ps (line_ends (old_pieces parts) true) in
    let old : List Item = spliced (λ old new. old) parts in
    let new : List Item = spliced (λ old new. new) parts in
    ap (swapped (swaps_of (n + length here) parts)) (sym (append_assoc pre here old))
    ∙ spliced_swapped parts (pre ++ here) (n + length here) (omega (arith, e, length-append pre here))
    ∙ append_assoc pre here new
spliced_swapped (Replaced a b ∷ parts) pre n e =
    let out : List Item = items (pieces_of a) false in
    let into : List Item = items (pieces_of b) false in
    let end : List Item = semicolon (ends_statement a.last && line_ends (old_pieces parts) true) in
    let old : List Item = spliced (λ old new. old) parts in
    let new : List Item = spliced (λ old new. new) parts in
    let rest : swapped (swaps_of (n + length (out ++ end)) parts) (pre ++ (out ++ (end ++ old))) ≡ pre ++ (out ++ (end ++ new)) =
    ap (swapped (swaps_of (n + length (out ++ end)) parts)) (ap (λ l. pre ++ l) (sym (append_assoc out end old)) ∙ sym (append_assoc pre (out ++ end) old))
    ∙ spliced_swapped parts (pre ++ (out ++ end)) (n + length (out ++ end)) (omega (arith, e, length-append pre (out ++ end)))
    ∙ append_assoc pre (out ++ end) new ∙ ap (λ l. pre ++ l) (append_assoc out end new) in
    let front : take n (pre ++ (out ++ (end ++ new))) ≡ pre = take_at pre (out ++ (end ++ new)) n (sym e) in
    let back : drop (n + length out) (pre ++ (out ++ (end ++ new))) ≡ end ++ new =
    ap (drop (n + length out)) (sym (append_assoc pre out (end ++ new))) ∙ drop_at (pre ++ out) (end ++ new) (n + length out) (let z : length (pre ++ out) ≡ n + length out = omega (arith, e, length-append pre out) in z) in
    ap (λ l. take n l ++ (into ++ drop (n + length out) l)) rest
    ∙ ap (λ l. l ++ (into ++ drop (n + length out) (pre ++ (out ++ (end ++ new))))) front
    ∙ ap (λ l. pre ++ (into ++ l)) back

-- Kinds alone.
abbrev pub kind_in : Item → TokenKind
kind_in x = x.kind

abbrev pub to_changes : List Swap → List Change
to_changes [] = []
to_changes (x ∷ xs) = record { from = x.from; upto = x.upto; words = map kind_in x.items } ∷ to_changes xs

pub kinds_read : (text : List ℕ) (ts : List Token) → map kind_in (map (read text) ts) ≡ kinds ts
kinds_read text [] = refl
kinds_read text (t ∷ ts) = ap (λ l. t.kind ∷ l) (kinds_read text ts)

pub same_changes : (rs : List Rewrite) → to_changes (swaps rs) ≡ changes rs
same_changes [] = refl
same_changes (r ∷ rs) =
    ap (λ l. (let x : Change = record { from = r.from; upto = r.upto; words = l } in x) ∷ to_changes (swaps rs)) (kinds_read r.new (own r.alone))
    ∙ ap (λ l. (let x : Change = record { from = r.from; upto = r.upto; words = words r } in x) ∷ l) (same_changes rs)

pub drop_map : {A B : Type 0} (f : A → B) (n : ℕ) (xs : List A) → drop n (map f xs) ≡ map f (drop n xs)
drop_map f zero xs = refl
drop_map f (suc n) [] = refl
drop_map f (suc n) (x ∷ xs) = drop_map f n xs

pub changed_kinds : (xs : List Swap) (us : List Item) → map kind_in (swapped xs us) ≡ changed (to_changes xs) (map kind_in us)
changed_kinds [] us = refl
changed_kinds (x ∷ xs) us =
    let all : List Item = swapped xs us in
    map-append kind_in (take x.from all) (x.items ++ drop x.upto all)
    ∙ ap (λ l. map kind_in (take x.from all) ++ l) (map-append kind_in x.items (drop x.upto all))
    ∙ ap (λ l. l ++ (map kind_in x.items ++ map kind_in (drop x.upto all))) (sym (take-map kind_in x.from all))
    ∙ ap (λ l. take x.from (map kind_in all) ++ (map kind_in x.items ++ l)) (sym (drop_map kind_in x.upto all))
    ∙ ap (λ l. take x.from l ++ (map kind_in x.items ++ drop x.upto l)) (changed_kinds xs us)

sooner : (rs : List RangeOf) (i k j : ℕ) → i ≤ k → Ascending k rs j → Ascending i rs j
sooner [] i k j le h = omega (arith, le, h)
sooner (r ∷ rs) i k j le h = (omega (arith, le, h.0), h.1, h.2)

-- the exchanged ranges lie one behind the other, and each has a token
pub swaps_ascend : (parts : List Part) (tail : List (List ℕ)) (n : ℕ) → Fits parts tail → Ascending n (ranges (to_changes (swaps_of n parts))) (n + length (spliced (λ old new. old) parts))
swaps_ascend [] tail n f = omega arith
swaps_ascend (Kept ps ∷ parts) tail n f =
    let here : List Item = items ps (line_ends (old_pieces parts) true) in
    let old : List Item = spliced (λ old new. old) parts in
    let far : n + length here + length old ≡ n + length (here ++ old) = omega (arith, length-append here old) in
    sooner (ranges (to_changes (swaps_of (n + length here) parts))) n (n + length here) (n + length (here ++ old)) (omega arith) (subst (Ascending (n + length here) (ranges (to_changes (swaps_of (n + length here) parts)))) far (swaps_ascend parts tail (n + length here) f.1))
swaps_ascend (Replaced a b ∷ parts) tail n f =
    let out : List Item = items (pieces_of a) false in
    let end : List Item = semicolon (ends_statement a.last && line_ends (old_pieces parts) true) in
    let old : List Item = spliced (λ old new. old) parts in
    let some : length out ≡ length (items a.before false ++ (record { kind = token_kind a.last; text = encode_utf8_all a.last } ∷ [])) = ap length (range_items a f.0.ends (old_blanks a f.0)) in
    let far : n + length (out ++ end) + length old ≡ n + length (out ++ (end ++ old)) = omega (arith, length-append out end, length-append out (end ++ old), length-append end old) in
    let rest = ranges (to_changes (swaps_of (n + length (out ++ end)) parts)) in
    (omega arith, omega (arith, some, length-append (items a.before false) (record { kind = token_kind a.last; text = encode_utf8_all a.last } ∷ [])), sooner rest (n + length out) (n + length (out ++ end)) (n + length (out ++ (end ++ old))) (omega (arith, length-append out end)) (subst (Ascending (n + length (out ++ end)) rest) far (swaps_ascend parts tail (n + length (out ++ end)) f.4)))
