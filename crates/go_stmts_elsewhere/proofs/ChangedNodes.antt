-- Nodes whose parts are changed: how they are laid out, what they take, and what is built of them.
use Rattle.std.proofs.Common.{◌≡◌, ◌∙◌, ℕ, zero, suc, Bool, true, false, List, [], ◌∷◌, ◌++◌, Option, Some, None, refl, sym, ap, subst}
use Rattle.std.specs.Prelude.{if◌then◌else◌, nat_lt, drop}
use Rattle.std.proofs.lemmas.List.{append_assoc}
use Rattle.go_grammar.specs.declared.kind.Kind.TheVariants as kind
use Rattle.go_types.specs.Trees.{TypeTree}
use Rattle.go_typed.specs.declared.form.Form.{Form}
use Rattle.go_typed.specs.declared.form.Form.TheVariants as form
use Rattle.go_typed.specs.Trees.{typed, Typeds, row}
use Rattle.go_typed.specs.Trees as sort
use Rattle.go_exprs_rules.specs.Settling.{Part, Take, stay, default, as_type, given}
use Rattle.go_exprs_rules.specs.Tables.{Parts, held}
use Rattle.go_stmts_defs.specs.Assigning.{Taking, takes, type_or_default}
use Rattle.go_stmts_defs.specs.Laying.{header_parts, if_parts, switch_parts, loop_header, for_parts, target_count, loop_form, first_loop_form}
use Rattle.go_stmts_defs.specs.Reading.{tag_behind}
use Rattle.go_stmts_defs.specs.Rules.{rest, is_first_number, first_type, target_there, operand_takes, loop_takes, given_optional, all_given}
use Rattle.go_exprs_elsewhere.specs.Elsewhere.{Moves, placed}
use Rattle.go_exprs_elsewhere.proofs.Public.{parts, held_kept, given_kept}
use Rattle.go_stmts_elsewhere.specs.Above.{Container, a_block, an_if, a_switch, a_for, a_range, a_case, a_default, form_in, quiet}
use Rattle.go_stmts_elsewhere.specs.Replaced.{Gap, ChangedPart, absent, stays, around, around_else, ChangedParts, no_more, one_more, in_place}
use Rattle.go_stmts_elsewhere.proofs.Above.{OnlyTypes, plain_header, plain_loop, held_alone}
use Rattle.go_stmts_elsewhere.proofs.Arranging.{header_kept, loop_kept, header_named, loop_named}
use Rattle.go_stmts_elsewhere.proofs.Entering.{tag_behind_kept}
use Rattle.go_stmts_elsewhere.proofs.Naming.{AllNamed, held_named, given_named}

module _ (m : Moves) (l : ℕ → Bool) (gaps : List Gap) where
  -- ---- lists

  pub all_stay : (b : Bool) (xs : Parts) → AllNamed l xs → ChangedParts m l gaps b xs (parts m xs)
  all_stay b [] n = no_more b
  all_stay b (None ∷ xs) n = one_more b None None xs (parts m xs) absent (all_stay b xs n)
  all_stay b (Some x ∷ xs) n = one_more b (Some x) (Some (placed m x)) xs (parts m xs) (stays x n.0) (all_stay b xs n.1)

  pub both_changed : (b : Bool) (os bs xs ys : Parts) → ChangedParts m l gaps b os bs → ChangedParts m l gaps b xs ys → ChangedParts m l gaps b (os ++ xs) (bs ++ ys)
  both_changed b os bs xs ys (no_more z) d = d
  both_changed b os bs xs ys (one_more z x y us vs e c) d = one_more z x y (us ++ xs) (vs ++ ys) e (both_changed z us vs xs ys c d)
  both_changed b os bs xs ys (in_place n g e us vs c) d =
      subst (λ zs. ChangedParts m l gaps true zs ((g.news ++ vs) ++ ys)) (sym (append_assoc g.olds us xs))
      (subst (λ zs. ChangedParts m l gaps true (g.olds ++ (us ++ xs)) zs) (sym (append_assoc g.news vs ys))
      (in_place n g e (us ++ xs) (vs ++ ys) (both_changed true us vs xs ys c d)))

  pub one_changed : (b : Bool) (x y : Option Part) → ChangedPart m l gaps x y → ChangedParts m l gaps b (x ∷ []) (y ∷ [])
  one_changed b x y c = one_more b x y [] [] c (no_more b)

  -- by equations of both lists
  pub by_both : (b : Bool) (xs ys us vs : Parts) → us ≡ xs → vs ≡ ys → ChangedParts m l gaps b xs ys → ChangedParts m l gaps b us vs
  by_both b xs ys us vs e d w = subst (λ zs. ChangedParts m l gaps b zs vs) (sym e) (subst (λ zs. ChangedParts m l gaps b xs zs) (sym d) w)

  stays_as : (b : Bool) (xs ys : Parts) → AllNamed l xs → ys ≡ parts m xs → ChangedParts m l gaps b xs ys
  stays_as b xs ys n e = subst (λ zs. ChangedParts m l gaps b xs zs) (sym e) (all_stay b xs n)

  -- ---- layouts

  pub held_changed : (q : Bool) (x y : Option Part) → ChangedPart m l gaps x y → ChangedParts m l gaps q (held x) (held y)
  held_changed q x y absent = one_changed q None None absent
  held_changed q x y (stays z n) = stays_as q (held (Some z)) (held (Some (placed m z))) (held_named l (Some z) (n, tt)) (held_kept m (Some z))
  held_changed q x y (around c i j a b d e z xs ys w) =
      let u = typed (form_in c) i j (quiet a b) (row xs) in
      let v = typed (form_in c) (m.token i) (m.token j) (quiet d e) (row ys) in
      by_both q (Some u ∷ []) (Some v ∷ []) (held (Some u)) (held (Some v)) (held_alone c i j (quiet a b) (row xs)) (held_alone c (m.token i) (m.token j) (quiet d e) (row ys))
      (one_changed q (Some u) (Some v) (around c i j a b d e z xs ys w))
  held_changed q x y (around_else c i j n k a b d e s t u v z xs ys w) =
      one_changed q (Some (typed (form_in c) n k (quiet d e) (row xs))) (Some (typed (form_in c) (m.token n) (m.token k) (quiet u v) (row ys))) (around c n k d e u v z xs ys w)

  header_changed : (x y : Option Part) → ChangedPart m l gaps x y → ChangedParts m l gaps false (header_parts x) (header_parts y)
  header_changed x y absent = one_more false None None (None ∷ []) (None ∷ []) absent (one_changed false None None absent)
  header_changed x y (stays z n) = stays_as false (header_parts (Some z)) (header_parts (Some (placed m z))) (header_named l (Some z) (n, tt)) (header_kept m (Some z))
  header_changed x y (around c i j a b d e z xs ys w) =
      let u = typed (form_in c) i j (quiet a b) (row xs) in
      let v = typed (form_in c) (m.token i) (m.token j) (quiet d e) (row ys) in
      by_both false (None ∷ Some u ∷ []) (None ∷ Some v ∷ []) (header_parts (Some u)) (header_parts (Some v)) (plain_header c i j (quiet a b) (row xs)) (plain_header c (m.token i) (m.token j) (quiet d e) (row ys))
      (one_more false None None (Some u ∷ []) (Some v ∷ []) absent (one_changed false (Some u) (Some v) (around c i j a b d e z xs ys w)))
  header_changed x y (around_else c i j n k a b d e s t u v z xs ys w) =
      let g = typed (form.Held kind.Else) i j (quiet a b) (sort.more (typed (form_in c) n k (quiet d e) (row xs)) sort.none) in
      let h = typed (form.Held kind.Else) (m.token i) (m.token j) (quiet s t) (sort.more (typed (form_in c) (m.token n) (m.token k) (quiet u v) (row ys)) sort.none) in
      one_more false None None (Some g ∷ []) (Some h ∷ []) absent (one_changed false (Some g) (Some h) (around_else c i j n k a b d e s t u v z xs ys w))

  loop_changed : (x y : Option Part) → ChangedPart m l gaps x y → ChangedParts m l gaps false (loop_header x) (loop_header y)
  loop_changed x y absent = one_more false None None (None ∷ None ∷ []) (None ∷ None ∷ []) absent (one_more false None None (None ∷ []) (None ∷ []) absent (one_changed false None None absent))
  loop_changed x y (stays z n) = stays_as false (loop_header (Some z)) (loop_header (Some (placed m z))) (loop_named l (Some z) (n, tt)) (loop_kept m (Some z))
  loop_changed x y (around c i j a b d e z xs ys w) =
      let u = typed (form_in c) i j (quiet a b) (row xs) in
      let v = typed (form_in c) (m.token i) (m.token j) (quiet d e) (row ys) in
      by_both false (None ∷ Some u ∷ None ∷ []) (None ∷ Some v ∷ None ∷ []) (loop_header (Some u)) (loop_header (Some v)) (plain_loop c i j (quiet a b) (row xs)) (plain_loop c (m.token i) (m.token j) (quiet d e) (row ys))
      (one_more false None None (Some u ∷ None ∷ []) (Some v ∷ None ∷ []) absent
      (one_more false (Some u) (Some v) (None ∷ []) (None ∷ []) (around c i j a b d e z xs ys w) (one_changed false None None absent)))
  loop_changed x y (around_else c i j n k a b d e s t u v z xs ys w) =
      one_changed false (Some (typed (form_in c) n k (quiet d e) (row xs))) (Some (typed (form_in c) (m.token n) (m.token k) (quiet u v) (row ys))) (around c n k d e u v z xs ys w)

  pub if_changed : (xs ys : Parts) → ChangedParts m l gaps false xs ys → ChangedParts m l gaps false (if_parts xs) (if_parts ys)
  if_changed xs ys (no_more b) = no_more false
  if_changed xs ys (one_more z h g os bs p (no_more y)) = one_changed false h g p
  if_changed xs ys (one_more z h g os bs p (one_more y b d cs ds q (no_more x))) = one_more false h g (b ∷ []) (d ∷ []) p (one_changed false b d q)
  if_changed xs ys (one_more z h g os bs p (one_more y b d cs ds q (one_more x e f es fs r (no_more t)))) =
      both_changed false (header_parts h) (header_parts g) (b ∷ held e) (d ∷ held f) (header_changed h g p) (one_more false b d (held e) (held f) q (held_changed false e f r))
  if_changed xs ys (one_more z h g os bs p (one_more y b d cs ds q (one_more x e f es fs r (one_more t u v us vs k w)))) =
      one_more false h g (b ∷ e ∷ u ∷ us) (d ∷ f ∷ v ∷ vs) p (one_more false b d (e ∷ u ∷ us) (f ∷ v ∷ vs) q (one_more false e f (u ∷ us) (v ∷ vs) r (one_more false u v us vs k w)))

  pub switch_changed : (xs ys : Parts) → ChangedParts m l gaps false xs ys → ChangedParts m l gaps false (switch_parts xs) (switch_parts ys)
  switch_changed xs ys (no_more b) = no_more false
  switch_changed xs ys (one_more z h g os bs p d) = both_changed false (header_parts h) (header_parts g) os bs (header_changed h g p) d

  pub for_changed : (xs ys : Parts) → ChangedParts m l gaps false xs ys → ChangedParts m l gaps false (for_parts xs) (for_parts ys)
  for_changed xs ys (no_more b) = no_more false
  for_changed xs ys (one_more z h g os bs p d) = both_changed false (loop_header h) (loop_header g) os bs (loop_changed h g p) d

  -- ---- what parts are given

  given_changed : (k : Take) (x y : Option Part) → ChangedPart m l gaps x y → ChangedPart m l gaps (given_optional (takes k) x) (given_optional (takes k) y)
  given_changed k x y absent = absent
  given_changed k x y (stays z n) = subst (λ v. ChangedPart m l gaps (Some (given k z)) (Some v)) (sym (given_kept m k z)) (stays (given k z) (given_named l k z n))
  given_changed stay x y (around c i j a b d e z xs ys w) = around c i j a b d e z xs ys w
  given_changed default x y (around c i j a b d e z xs ys w) = around c i j a b d e z xs ys w
  given_changed (as_type t) x y (around c i j a b d e z xs ys w) = around c i j a b d e z xs ys w
  given_changed stay x y (around_else c i j n k a b d e s t u v z xs ys w) = around_else c i j n k a b d e s t u v z xs ys w
  given_changed default x y (around_else c i j n k a b d e s t u v z xs ys w) = around_else c i j n k a b d e s t u v z xs ys w
  given_changed (as_type o) x y (around_else c i j n k a b d e s t u v z xs ys w) = around_else c i j n k a b d e s t u v z xs ys w

  pub all_given_changed : (ks : List Taking) → OnlyTypes ks → (xs ys : Parts) → ChangedParts m l gaps false xs ys → ChangedParts m l gaps false (all_given ks xs) (all_given ks ys)
  all_given_changed [] w xs ys e = e
  all_given_changed (takes k ∷ ks) w xs ys (no_more b) = no_more false
  all_given_changed (takes k ∷ ks) w xs ys (one_more b x y os bs p d) =
      one_more false (given_optional (takes k) x) (given_optional (takes k) y) (all_given ks os) (all_given ks bs) (given_changed k x y p) (all_given_changed ks w os bs d)
  all_given_changed (k ∷ ks) w xs ys e = absurd w

  -- ---- what they take

  first_open : (xs ys : Parts) → ChangedParts m l gaps false xs ys → is_first_number ys ≡ is_first_number xs
  first_open xs ys (no_more b) = refl
  first_open xs ys (one_more b x y os bs p d) = by x y os bs p
    where
      by : (x y : Option Part) (os bs : Parts) → ChangedPart m l gaps x y → is_first_number (y ∷ bs) ≡ is_first_number (x ∷ os)
      by x y os bs absent = refl
      by x y os bs (stays (typed f i j u ps) n) = refl
      by x y os bs (around c i j a b d e z xs ys w) = refl
      by x y os bs (around_else c i j n k a b d e s t u v z xs ys w) = refl

  first_typed : (xs ys : Parts) → ChangedParts m l gaps false xs ys → first_type ys ≡ first_type xs
  first_typed xs ys (no_more b) = refl
  first_typed xs ys (one_more b x y os bs p d) = by x y os bs p
    where
      by : (x y : Option Part) (os bs : Parts) → ChangedPart m l gaps x y → first_type (y ∷ bs) ≡ first_type (x ∷ os)
      by x y os bs absent = refl
      by x y os bs (stays (typed f i j u ps) n) = refl
      by x y os bs (around c i j a b d e z xs ys w) = refl
      by x y os bs (around_else c i j n k a b d e s t u v z xs ys w) = refl

  dropped_changed : (n : ℕ) (xs ys : Parts) → ChangedParts m l gaps false xs ys → ChangedParts m l gaps false (drop n xs) (drop n ys)
  dropped_changed zero xs ys e = e
  dropped_changed (suc n) xs ys (no_more b) = no_more false
  dropped_changed (suc n) xs ys (one_more b x y os bs p d) = dropped_changed n os bs d

  operand_changed : (n : ℕ) (xs ys : Parts) → ChangedParts m l gaps false xs ys → operand_takes n ys ≡ operand_takes n xs
  operand_changed n xs ys e =
      ap (λ b. if b then type_or_default (target_there n ys) else takes default) (first_open (drop n xs) (drop n ys) (dropped_changed n xs ys e))
      ∙ ap (λ t. if is_first_number (drop n xs) then type_or_default (if nat_lt 0 n then t else None) else takes default) (first_typed xs ys e)

  pub loop_takes_changed : (f : Form) (xs ys : Parts) → ChangedParts m l gaps false xs ys → loop_takes f ys ≡ loop_takes f xs
  loop_takes_changed (form.Range b n) xs ys e = ap (λ k. rest n ++ k ∷ []) (operand_changed n xs ys e)
  loop_takes_changed f xs ys e = refl

  -- ---- the tag in front of clauses

  quiet_tag : (c : Container) (i j : ℕ) (a b : Bool) (ps : Typeds TypeTree) → tag_behind (Some (typed (form_in c) i j (quiet a b) ps)) ≡ sort.Unknown
  quiet_tag a_block i j a b ps = refl
  quiet_tag an_if i j a b ps = refl
  quiet_tag a_switch i j a b ps = refl
  quiet_tag a_for i j a b ps = refl
  quiet_tag (a_range d n) i j a b ps = refl
  quiet_tag (a_case n) i j a b ps = refl
  quiet_tag a_default i j a b ps = refl

  pub tag_changed : (x y : Option Part) → ChangedPart m l gaps x y → tag_behind y ≡ tag_behind x
  tag_changed x y absent = refl
  tag_changed x y (stays z n) = tag_behind_kept m (Some z)
  tag_changed x y (around c i j a b d e z xs ys w) = quiet_tag c (m.token i) (m.token j) d e (row ys) ∙ sym (quiet_tag c i j a b (row xs))
  tag_changed x y (around_else c i j n k a b d e s t u v z xs ys w) = refl

-- ---- which loops are containers

pub record OfLoop (f : Form) : Type 0 where
  pub container : Container
  pub form_of_it : f ≡ form_in container

of_loop : (x : Option Part) → OfLoop (loop_form x)
of_loop (Some (typed (form.Held kind.Range) i j u ps)) = record { container = a_range false 0; form_of_it = refl }
of_loop (Some (typed (form.Held kind.AssigningRange) i j u ps)) = record { container = a_range false (target_count ps); form_of_it = refl }
of_loop (Some (typed (form.Held kind.DefiningRange) i j u ps)) = record { container = a_range true (target_count ps); form_of_it = refl }
of_loop x = record { container = a_for; form_of_it = refl }

pub of_first_loop : (xs : Parts) → OfLoop (first_loop_form xs)
of_first_loop [] = record { container = a_for; form_of_it = refl }
of_first_loop (x ∷ xs) = of_loop x
