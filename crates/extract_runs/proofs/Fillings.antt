-- A function of which statements are replaced is an image.
use Rattle.std.proofs.Common.{◌≡◌, ℕ, zero, suc, refl, sym, ap, ◌∙◌, subst, arith, Option, Some, None}
use Rattle.std.specs.Prelude.{Bool, true, false, ◌||◌, not, ◌≤◌, nat_lt, if◌then◌else◌, List, ◌∷◌}
use Rattle.go_types.specs.Trees.{TypeTree}
use Rattle.go_types.specs.Relations.{Rights}
use Rattle.go_types_relations.specs.Renaming.{renamed}
use Rattle.go_typed.specs.declared.form.Form.{Form}
use Rattle.go_typed.specs.declared.form.Form.TheVariants as form
use Rattle.go_typed.specs.Forms.{is_default, is_statement_list, values_count}
use Rattle.go_typed.specs.Trees.{Nothing, Label, Typed, typed, Typeds, none, more, skip, first_of, sort_mapped, mapped, all_mapped}
use Rattle.go_meaning.specs.Values.{Value}
use Rattle.go_meaning.specs.Plans.{Sequence, CaseOf, Otherwise, Once}
use Rattle.go_meaning.specs.Plans as plans
use Rattle.go_meaning.specs.Planning.{part_at, is_there, calls_there, type_there, shape_of, shape_at, default_at, at_most_one, items_of, form_plan, sort_plan}
use Rattle.extract_trees.specs.Numberings.{Numbering, node_numbered}
use Rattle.extract_trees.specs.Filled.{Gap, gap_at, onto, row_with, filled, all_filled}
use Rattle.go_meaning_simulation.specs.Links.{joined}
use Rattle.go_meaning_simulation.specs.Seen.{seen, seen_of}
use Rattle.extract_runs.specs.Quiet.{IsKeyed}
use Rattle.extract_runs.proofs.Seeing.{default_numbered, numbered_seen}
use Rattle.extract_runs.specs.Images.{Renewal, Image, Images, Listed, is_list, values_in}
use Rattle.extract_runs.specs.Images as images
use Rattle.extract_runs.specs.Renumbering.{Renumbers}
use Rattle.extract_runs.specs.Holes.{renewal, IsNoKey, IsValue}
use Rattle.extract_runs.specs.Gaps.{AreBefore, is_above, has_statements, have_statements, is_free, HasFreeOperand, Gapped, GappedParts, GappedList}
use Rattle.extract_runs.specs.Gaps as gaps
use Rattle.extract_runs.proofs.Copies.{plan_image, numbered_image, keyed_numbered, no_key_sort}

onto_joined : (ps qs : Typeds TypeTree) → onto ps qs ≡ joined ps qs
onto_joined none qs = refl
onto_joined (more p ps) qs = ap (more p) (onto_joined ps qs)
onto_joined (skip ps) qs = ap skip (onto_joined ps qs)

module _ (c : Numbering) (s : ℕ → ℕ) (old new : Rights) (g : Renumbers c s old new) (gs : List Gap) (held : Value → ℕ → Type 0) (windows : Typeds TypeTree → Typeds TypeTree → Type 0) (gone : ℕ → Bool) where
  abbrev r : Renewal
  r = renewal c s old new held windows gone

  abbrev rest : Typeds TypeTree → ℕ → Typeds TypeTree
  rest ps u = all_filled c gs true u ps

  kept : (u : ℕ) (p : Typed TypeTree) (ps : Typeds TypeTree) (o : Option Gap) → nat_lt (first_of p) u ≡ false → gap_at gs (first_of p) ≡ o → all_filled c gs true u (more p ps) ≡ row_with o (filled c gs p) u (rest ps)
  kept u p ps o lt at = ap (λ b. if b then rest ps u else row_with (gap_at gs (first_of p)) (filled c gs p) u (rest ps)) lt ∙ ap (λ x. row_with x (filled c gs p) u (rest ps)) at

  dropped : (u : ℕ) (ws ts : Typeds TypeTree) → AreBefore u ws → rest (joined ws ts) u ≡ rest ts u
  dropped u none ts b = refl
  dropped u (more w ws) ts b = ap (λ x. if x then rest (joined ws ts) u else row_with (gap_at gs (first_of w)) (filled c gs w) u (rest (joined ws ts))) b.0 ∙ dropped u ws ts b.1
  dropped u (skip ws) ts b = absurd b

  -- ---- what is seen of parts

  abbrev Parts : ℕ → Typeds TypeTree → Type 0
  Parts n ps = GappedParts c gs held windows gone n ps

  clash : {A : Type 0} (b : Bool) → b ≡ true → b ≡ false → A
  clash true e d = absurd cc
  clash false e d = absurd cc

  neither : (a b : Bool) → (a || b) ≡ false → (a ≡ false) × (b ≡ false)
  neither true b e = absurd cc
  neither false b e = (refl, e)

  mutual
    filled_seen : {n : ℕ} (t : Typed TypeTree) → has_statements t ≡ false → Gapped c gs held windows gone n t → seen_of (filled c gs t) ≡ seen_of (mapped (renamed c.type) t)
    filled_seen (typed f i j l ps) free (gaps.node un up hs hc k v parts) =
        subst (λ b. seen_of (node_numbered c f i j l (all_filled c gs b 0 ps)) ≡ seen_of (mapped (renamed c.type) (typed f i j l ps))) (sym un) (numbered_seen c f i j l ps (all_filled c gs false 0 ps) (parts_seen ps hs parts) hc k)
    filled_seen (typed f i j l ps) free (gaps.above up o parts) =
        clash (is_above f) up (neither (is_statement_list f) (is_above f) (neither (is_statement_list f || is_above f) (have_statements ps) free).0).1
    filled_seen (typed f i j l ps) free (gaps.list is n rows) =
        clash (is_statement_list f) is (neither (is_statement_list f) (is_above f) (neither (is_statement_list f || is_above f) (have_statements ps) free).0).0

    parts_seen : {n : ℕ} (ps : Typeds TypeTree) → have_statements ps ≡ false → Parts n ps → seen (all_filled c gs false 0 ps) ≡ seen (all_mapped (renamed c.type) ps)
    parts_seen none free gaps.no_parts = refl
    parts_seen (more p ps) free (gaps.part a b ab un t ts) =
        let f = neither (has_statements p) (have_statements ps) free in
        ap (λ x. Some x ∷ seen (all_filled c gs false 0 ps)) (filled_seen p f.0 t) ∙ ap (λ x. Some (seen_of (mapped (renamed c.type) p)) ∷ x) (parts_seen ps f.1 ts)
    parts_seen (skip ps) free (gaps.no_part ts) = ap (λ x. None ∷ x) (parts_seen ps free ts)

  -- ---- what nodes above statements see of their parts

  abbrev new_parts : Typeds TypeTree → Typeds TypeTree
  new_parts ps = all_filled c gs false 0 ps

  abbrev old_parts : Typeds TypeTree → Typeds TypeTree
  old_parts ps = all_mapped (renamed c.type) ps

  there_filled : (ps : Typeds TypeTree) (n : ℕ) → is_there (part_at (new_parts ps) n) ≡ is_there (part_at (old_parts ps) n)
  there_filled none n = refl
  there_filled (more p ps) zero = refl
  there_filled (skip ps) zero = refl
  there_filled (more p ps) (suc n) = there_filled ps n
  there_filled (skip ps) (suc n) = there_filled ps n

  default_filled : (ps : Typeds TypeTree) → default_at (new_parts ps) ≡ default_at (old_parts ps)
  default_filled none = refl
  default_filled (more (typed f i j l qs) ps) = ap (λ b. if b then 0 else suc (default_at (new_parts ps))) (default_numbered c f) ∙ ap (λ n. if is_default f then 0 else suc n) (default_filled ps)
  default_filled (skip ps) = ap suc (default_filled ps)

  not_false : (b : Bool) → not b ≡ true → b ≡ false
  not_false true e = absurd cc
  not_false false e = refl

  calls_filled : {n : ℕ} (ps : Typeds TypeTree) (m : ℕ) → is_free (part_at ps m) ≡ true → Parts n ps → calls_there (part_at (new_parts ps) m) ≡ calls_there (part_at (old_parts ps) m)
  calls_filled none m free gaps.no_parts = refl
  calls_filled (more (typed f i j l qs) ps) zero free (gaps.part a b ab un t ts) = ap (λ x. x.calls) (filled_seen (typed f i j l qs) (not_false (has_statements (typed f i j l qs)) free) t)
  calls_filled (more p ps) (suc m) free (gaps.part a b ab un t ts) = calls_filled ps m free ts
  calls_filled (skip ps) zero free (gaps.no_part ts) = refl
  calls_filled (skip ps) (suc m) free (gaps.no_part ts) = calls_filled ps m free ts

  type_filled : {n : ℕ} (ps : Typeds TypeTree) (m : ℕ) → is_free (part_at ps m) ≡ true → Parts n ps → type_there (part_at (new_parts ps) m) ≡ type_there (part_at (old_parts ps) m)
  type_filled none m free gaps.no_parts = refl
  type_filled (more (typed f i j l qs) ps) zero free (gaps.part a b ab un t ts) = ap (λ x. x.type) (filled_seen (typed f i j l qs) (not_false (has_statements (typed f i j l qs)) free) t)
  type_filled (more p ps) (suc m) free (gaps.part a b ab un t ts) = type_filled ps m free ts
  type_filled (skip ps) zero free (gaps.no_part ts) = refl
  type_filled (skip ps) (suc m) free (gaps.no_part ts) = type_filled ps m free ts

  above_sees : {n : ℕ} (f : Form) (ps : Typeds TypeTree) → is_above f ≡ true → HasFreeOperand f ps → Parts n ps → (t : TypeTree) → form_plan new f t (new_parts ps) ≡ form_plan new f t (old_parts ps)
  above_sees form.Function ps up o parts t = refl
  above_sees form.If ps up o parts t = refl
  above_sees form.For ps up o parts t = refl
  above_sees form.Switch ps up o parts t = ap (λ b. plans.Select b (default_at (new_parts ps))) (there_filled ps 1) ∙ ap (plans.Select (is_there (part_at (old_parts ps) 1))) (default_filled ps)
  above_sees (form.Range defines m) ps up o parts t =
      ap (λ b. plans.Iterate m (items_of (at_most_one m) b (shape_at new (new_parts ps) m))) (calls_filled ps m o parts)
      ∙ ap (λ u. plans.Iterate m (items_of (at_most_one m) (calls_there (part_at (old_parts ps) m)) (shape_of new u))) (type_filled ps m o parts)
  above_sees f ps up o parts t = absurd cc

  above_no_list : (f : Form) → is_above f ≡ true → is_statement_list f ≡ false
  above_no_list form.Function e = refl
  above_no_list form.If e = refl
  above_no_list form.For e = refl
  above_no_list form.Switch e = refl
  above_no_list (form.Range defines m) e = refl
  above_no_list f e = absurd cc

  above_no_key : (f : Form) → is_above f ≡ true → IsNoKey c held f
  above_no_key (form.Keyed m) e = absurd cc
  above_no_key f e = tt

  -- ---- nodes

  plain_image : {n i j : ℕ} (f : Form) (l : Label TypeTree) (ps : Typeds TypeTree) → IsKeyed f l.sort ps → IsValue c held f ps → seen (all_filled c gs false 0 ps) ≡ seen (all_mapped (renamed c.type) ps) → Images r n ps (all_filled c gs false 0 ps) → ((k : ℕ) → Listed r n k ps (all_filled c gs false 0 ps)) →
      Image r n (typed f i j l ps) (node_numbered c f i j l (all_filled c gs false 0 ps))
  plain_image (form.Keyed m) l none k v same parts rows = keyed_numbered c s old new g held windows gone l none none same parts _ refl
  plain_image (form.Keyed m) l (skip ps) k v same parts rows = keyed_numbered c s old new g held windows gone l (skip ps) _ same parts _ refl
  plain_image (form.Keyed m) l (more (typed f1 i1 j1 l1 us) ps) k v same parts rows = keyed_numbered c s old new g held windows gone l (more (typed f1 i1 j1 l1 us) ps) _ same parts _ (no_key_sort c s old new g held windows gone f1 (sort_mapped (renamed c.type) l1.sort) _ v ∙ ap (sort_mapped (renamed c.type)) (sym k))
  plain_image f l ps k v same parts rows = numbered_image c s old new g held windows gone l ps (all_filled c gs false 0 ps) same parts rows f tt

  list_image : {n i j : ℕ} (f : Form) (l : Label TypeTree) (ps : Typeds TypeTree) → is_statement_list f ≡ true → l.sort ≡ Nothing → Listed r n (values_count f) ps (all_filled c gs true 0 ps) → Image r n (typed f i j l ps) (node_numbered c f i j l (all_filled c gs (is_statement_list f) 0 ps))
  list_image form.Block l ps is n rows = images.list Sequence refl (ap (λ x. Once (sort_plan x Sequence)) n) (ap (λ x. Once (sort_plan (sort_mapped (renamed c.type) x) Sequence)) n) rows
  list_image form.Default l ps is n rows = images.list Otherwise refl (ap (λ x. Once (sort_plan x Otherwise)) n) (ap (λ x. Once (sort_plan (sort_mapped (renamed c.type) x) Otherwise)) n) rows
  list_image (form.Case m) l ps is n rows = images.list (CaseOf m) refl (ap (λ x. Once (sort_plan x (CaseOf m))) n) (ap (λ x. Once (sort_plan (sort_mapped (renamed c.type) x) (CaseOf m))) n) rows
  list_image f l ps is n rows = absurd cc

  -- ---- trees

  wider : {k : ℕ} {ps qs : Typeds TypeTree} (b n : ℕ) → b ≤ n → Listed r b k ps qs → Listed r n k ps qs
  wider b n le images.ends = images.ends
  wider b n le (images.value t rows) = images.value t (wider b n le rows)
  wider b n le (images.next a d ad un t rows) = images.next a d (omega (arith, le, ad)) un t rows
  wider b n le (images.left_out rows) = images.left_out (wider b n le rows)
  wider b n le (images.window {b = d} ad e e' w rows) = images.window {b = d} (omega (arith, le, ad)) e e' w rows

  mutual
    pub fillings_are_images : {n : ℕ} (t : Typed TypeTree) → Gapped c gs held windows gone n t → Image r n t (filled c gs t)
    fillings_are_images {n = n} (typed f i j l ps) (gaps.node un up hs hc k v parts) =
        subst (λ b. Image r n (typed f i j l ps) (node_numbered c f i j l (all_filled c gs b 0 ps))) (sym un) (plain_image f l ps k v (parts_seen ps hs parts) (parts_images ps parts) (λ x. parts_listed x ps parts))
    fillings_are_images {n = n} (typed f i j l ps) (gaps.above up o parts) =
        subst (λ b. Image r n (typed f i j l ps) (node_numbered c f i j l (all_filled c gs b 0 ps))) (sym (above_no_list f up))
        (plan_image c s old new g held windows gone l ps (all_filled c gs false 0 ps) f (above_sees f ps up o parts) (parts_images ps parts) (λ x. parts_listed x ps parts) (above_no_key f up))
    fillings_are_images (typed f i j l ps) (gaps.list is un rows) = list_image f l ps is un (list_images ps rows)

    parts_images : {n : ℕ} (ps : Typeds TypeTree) → GappedParts c gs held windows gone n ps → Images r n ps (all_filled c gs false 0 ps)
    parts_images none gaps.no_parts = images.none
    parts_images (more p ps) (gaps.part a b ab un t ts) = images.more a b ab (fillings_are_images p t) (parts_images ps ts)
    parts_images (skip ps) (gaps.no_part ts) = images.skip (parts_images ps ts)

    parts_listed : {n : ℕ} (k : ℕ) (ps : Typeds TypeTree) → GappedParts c gs held windows gone n ps → Listed r n k ps (all_filled c gs false 0 ps)
    parts_listed k none gaps.no_parts = images.ends
    parts_listed zero (more p ps) (gaps.part a b ab un t ts) = images.next a b ab un (fillings_are_images p t) (parts_listed 0 ps ts)
    parts_listed (suc k) (more p ps) (gaps.part a b ab un t ts) = images.value (fillings_are_images p t) (wider b _ (omega (arith, ab)) (parts_listed k ps ts))
    parts_listed k (skip ps) (gaps.no_part ts) = images.left_out (parts_listed k ps ts)

    list_images : {n k u : ℕ} (ps : Typeds TypeTree) → GappedList c gs held windows gone n k u ps → Listed r n k ps (all_filled c gs true u ps)
    list_images none gaps.ends = images.ends
    list_images (skip ps) (gaps.left_out rows) = images.left_out (list_images ps rows)
    list_images {n = n} {u = u} (more p ps) (gaps.value {k = k} lt at t rows) = subst (Listed r n (suc k) (more p ps)) (sym (kept u p ps None lt at)) (images.value (fillings_are_images p t) (list_images ps rows))
    list_images {n = n} {u = u} (more p ps) (gaps.next a b ab lt at un t rows) = subst (Listed r n 0 (more p ps)) (sym (kept u p ps None lt at)) (images.next a b ab un (fillings_are_images p t) (list_images ps rows))
    list_images {n = n} {u = u} (more p ps) (gaps.window {b = b} {ws = ws} {ts = ts} gap le lt at is before w rows) =
        images.window {ws = more p ws} {ws' = gap.statements} {ts = ts} {ts' = rest ts gap.upto} le (ap (more p) is)
        (kept u p ps (Some gap) lt at ∙ onto_joined gap.statements (rest ps gap.upto) ∙ ap (joined gap.statements) (ap (λ x. rest x gap.upto) is ∙ dropped gap.upto ws ts before)) w (list_images ts rows)
