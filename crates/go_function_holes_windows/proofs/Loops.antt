-- Loops (Go specification: For statements, For statements with range clause).
use Rattle.std.proofs.Common.{◌≡◌, ◌∙◌, ℕ, ◌-◌, Bool, true, false, List, [], ◌∷◌, ◌++◌, length, take, drop, Some, None, refl, sym, ap, subst, append_assoc, arith, length-append}
use Rattle.go_grammar.specs.declared.kind.Category.{Category}
use Rattle.go_grammar.specs.declared.kind.Category.TheVariants as category
use Rattle.go_grammar.specs.declared.kind.Kind.{Kind}
use Rattle.go_grammar.specs.declared.kind.Kind.TheVariants as kind
use Rattle.go_grammar.specs.declared.kind.Place.TheVariants as place
use Rattle.go_grammar.specs.Categories.{place_of}
use Rattle.go_grammar.specs.Grammar.{rule, any}
use Rattle.go_grammar.specs.Trees.{Trees, node}
use Rattle.go_types.specs.Relations.{Rights}
use Rattle.go_typed.specs.declared.form.Form.{Form}
use Rattle.go_typed.specs.declared.form.Form.TheVariants as form
use Rattle.go_typed.specs.Trees.{typed, list_of, form_of}
use Rattle.go_exprs_rules.specs.declared.fault.TypeFault.{TypeFault}
use Rattle.go_exprs_rules.specs.Scopes.{Hint, value}
use Rattle.go_exprs_rules.specs.Settling.{Part}
use Rattle.go_exprs_rules.specs.Tables.{Parts, present, held, all_held}
use Rattle.go_stmts_defs.specs.Frames.{Frame, rights_of}
use Rattle.go_stmts_defs.specs.Laying.{target_count, loop_form, loop_header}
use Rattle.go_stmts_defs.specs.Rules.{each, not_a_target, last_part, range_types, range_assigned, range_failing, own_faults, built_by}
use Rattle.go_function_holes.proofs.Public.{Below, OfHole, differ}
use Rattle.go_function_holes_windows.proofs.Rows.{Each, Good, Fine, each-both, fine-good, list-row}
use Rattle.go_function_holes_windows.proofs.Takings.{built-fine, loop-taken, names-front, NamesFirst, range-fit}
use Rattle.go_function_holes_windows.proofs.Read.{Aimed, Full, Headed, InTargets, PartAs, RowAs, plain-fine}
use Rattle.go_function_holes_windows.proofs.Layouts.{Unfailing, node_of}
use Rattle.go_function_holes_windows.proofs.Lists.{each-aimed, unheld-row}
use Rattle.go_function_holes_windows.proofs.Assignments.{aimed-good, front-nil}
use Rattle.go_function_holes_windows.proofs.Within.{Within, each-weaker-holes, good-weaker, lifted}
use Rattle.go_function_holes.proofs.Public.{deeper}

-- ---- headers

abbrev pub is_assigning : Form → Bool
is_assigning (form.Held kind.AssigningRange) = true
is_assigning f = false

pub headed-fine : (P : OfHole) (x : Part) → is_assigning (form_of x) ≡ false → Fine P x → Headed P x
headed-fine P (typed (form.Held kind.AssigningRange) i j l ps) e h = absurd (differ (sym e))
headed-fine P (typed f i j l ps) e h = h

pub headed-weaker : (P Q : OfHole) → ((i j : ℕ) → P i j → Q i j) → (x : Part) → Headed P x → Headed Q x
headed-weaker P Q g (typed (form.Held kind.AssigningRange) i j l ps) h =
    record { targets = h.targets; operand = h.operand; is = h.is; counted = h.counted; aimed = each-aimed P Q g h.targets h.aimed; full = h.full; good = good-weaker P Q g h.operand h.good }
headed-weaker P Q g x h = each-weaker-holes P Q g (held (Some x)) h

header-goods : (P : OfHole) (x : Part) → is_assigning (form_of x) ≡ false → Headed P x → Each (Good P) (loop_header (Some x))
header-goods P (typed (form.Held kind.AssigningRange) i j l ps) e h = absurd (differ (sym e))
header-goods P (typed (form.Held kind.ForClause) i j l ps) e h = (tt, h)
header-goods P (typed (form.Held k) i j l ps) e h = h
header-goods P (typed f i j l ps) e h = (tt, (h.0, (tt, tt)))

-- ---- what a range assigns to

drop-full : (ts ys : Parts) → Full ts → drop (length ts) (present (ts ++ ys)) ≡ present ys
drop-full [] ys f = refl
drop-full (None ∷ ts) ys f = absurd f
drop-full (Some t ∷ ts) ys f = drop-full ts ys f

range-targets : (rights : Rights) (i j n : ℕ) (ts bs : Parts) (v : Part) → n ≡ length ts → Full ts → range_failing rights i j false (take n (present (ts ++ Some v ∷ bs))) (drop n (present (ts ++ Some v ∷ bs))) ≡ []
    → each (not_a_target rights) (take (length ts) (present (ts ++ Some v ∷ bs))) ≡ []
range-targets rights i j n ts bs v m f e =
    let all = present (ts ++ Some v ∷ bs) in
    let counted : range_failing rights i j false (take (length ts) all) (drop (length ts) all) ≡ [] = subst (λ k. range_failing rights i j false (take k all) (drop k all) ≡ []) m e in
    let behind : range_failing rights i j false (take (length ts) all) (v ∷ present bs) ≡ [] = subst (λ xs. range_failing rights i j false (take (length ts) all) xs ≡ []) (drop-full ts (Some v ∷ bs) f) counted in
    front-nil (each (not_a_target rights) (take (length ts) all)) (range_assigned rights i j (take (length ts) all) v (range_types rights v)) behind

last-count : (ts : Parts) (v : Part) → length (ts ++ Some v ∷ []) - 1 ≡ length ts
last-count ts v = omega (arith, length-append ts (Some v ∷ []))

module _ (P : OfHole) (s : Frame) (i j : ℕ) where
  ranged-over : (n : ℕ) (ts bs : Parts) (v : Part) (ys : Parts) → n ≡ length ts → ys ≡ ts ++ Some v ∷ bs → Each (Aimed P) ts → Full ts → Good P v → Each (Good P) bs → own_faults s kind.For (form.Range false n) i j ys ≡ []
      → Fine P (built_by s kind.For (form.Range false n) i j ys (own_faults s kind.For (form.Range false n) i j ys))
  ranged-over n ts bs v ys m is a f g b e =
      let rules : range_failing (rights_of s) i j false (take n (present (ts ++ Some v ∷ bs))) (drop n (present (ts ++ Some v ∷ bs))) ≡ [] = subst (λ zs. range_failing (rights_of s) i j false (take n (present zs)) (drop n (present zs)) ≡ []) is e in
      let goods : Each (Good P) (ts ++ Some v ∷ bs) = aimed-good P (rights_of s) ts (Some v ∷ bs) a f (g, b) (range-targets (rights_of s) i j n ts bs v m f rules) in
      built-fine P s kind.For (form.Range false n) i j ys (own_faults s kind.For (form.Range false n) i j ys) 0 e (loop-taken (form.Range false n) ys) (subst (Each (Good P)) (sym is) goods)

  loop-plain : (x : Part) (bs : Parts) → is_assigning (form_of x) ≡ false → Headed P x → Each (Good P) bs → let ys = loop_header (Some x) ++ bs in own_faults s kind.For (loop_form (Some x)) i j ys ≡ []
      → Fine P (built_by s kind.For (loop_form (Some x)) i j ys (own_faults s kind.For (loop_form (Some x)) i j ys))
  loop-plain x bs n h b e =
      let ys : Parts = loop_header (Some x) ++ bs in
      let f = loop_form (Some x) in
      built-fine P s kind.For f i j ys (own_faults s kind.For f i j ys) 0 e (loop-taken f ys) (each-both (Good P) (loop_header (Some x)) bs (header-goods P x n h) b)

  loop-over : (x : Part) (bs : Parts) → Headed P x → Each (Good P) bs → let ys = loop_header (Some x) ++ bs in own_faults s kind.For (loop_form (Some x)) i j ys ≡ []
      → Fine P (built_by s kind.For (loop_form (Some x)) i j ys (own_faults s kind.For (loop_form (Some x)) i j ys))
  loop-over (typed (form.Held kind.AssigningRange) a z l ps) bs h b e =
      ranged-over (target_count ps) h.targets bs h.operand (list_of ps ++ bs) h.counted (ap (λ zs. zs ++ bs) h.is ∙ append_assoc h.targets (Some h.operand ∷ []) bs) h.aimed h.full h.good b e
  loop-over (typed f a z l ps) bs h b e = loop-plain (typed f a z l ps) bs refl h b e

-- ---- nodes

module _ (o : Bool) (c : Category) (s : Frame) (h : Hint) (i j : ℕ) (ps : Trees) where
  abbrev Q : Kind → OfHole
  Q k = Below o c (node k i j ps)

  abbrev Row : Kind → Parts → Type 0
  Row k xs = RowAs c k h ps (rule (place_of c) k) 0 [] xs

  block-good : (xs : Parts) (b : Part) → PartAs c kind.For h ps 1 category.Block xs b → Good (Q kind.For) b
  block-good xs b part =
      fine-good (Q kind.For) b
      (each-weaker-holes (Within true category.Block part.stood) (Q kind.For) (lifted o c kind.For i j ps 1 category.Block part.stood (part.at refl) (λ path. refl) (λ e. refl)) (held (Some b)) part.read)

  pub loop : (xs : Parts) → Row kind.For xs → Unfailing s kind.For i j xs → Fine (Q kind.For) (node_of s kind.For i j xs)
  loop [] r u = absurd r
  loop (None ∷ []) r u = absurd r
  loop (Some x ∷ []) r u = absurd r.1
  loop (None ∷ None ∷ xs) r u = absurd r
  loop (None ∷ Some b ∷ y ∷ ys) r u = absurd r.1
  loop (None ∷ Some b ∷ []) r u =
      let ys : Parts = None ∷ None ∷ None ∷ Some b ∷ [] in
      built-fine (Q kind.For) s kind.For form.For i j ys (own_faults s kind.For form.For i j ys) 0 u (loop-taken form.For ys) (tt, (tt, (tt, (block-good (None ∷ []) b r.0, tt))))
  loop (Some x ∷ None ∷ xs) r u = absurd r.1
  loop (Some x ∷ Some b ∷ y ∷ ys) r u = absurd r.1.1
  loop (Some x ∷ Some b ∷ []) r u =
      let part = r.0 refl in
      let headed : Headed (Q kind.For) x = headed-weaker (Within true category.ForHeader part.stood) (Q kind.For) (lifted o c kind.For i j ps 0 category.ForHeader part.stood (part.at refl) (λ path. refl) (λ e. refl)) x (part.read refl) in
      loop-over (Q kind.For) s i j x (Some b ∷ []) headed (block-good (Some x ∷ []) b r.1.0, tt) u

  operand-fine-in : (k : Kind) (xs : Parts) (v : Part) (part : PartAs c k h ps 1 (any place.Header) xs v) → ((a b : ℕ) → Within true (any place.Header) part.stood a b → Q k a b) → Fine (Within true (any place.Header) part.stood) v → Fine (Q k) v
  operand-fine-in k xs v part g f = each-weaker-holes (Within true (any place.Header) part.stood) (Q k) g (held (Some v)) f

  assigning-over : (ts : Parts) (v : Part) (ys : Parts) (own : List TypeFault) → own ≡ [] → ys ≡ ts ++ Some v ∷ [] → Each (Aimed (Q kind.AssigningRange)) ts → Full ts → Good (Q kind.AssigningRange) v
      → Headed (Q kind.AssigningRange) (built_by s kind.AssigningRange (form.Held kind.AssigningRange) i j ys own)
  assigning-over ts v ys [] e is a f g = record {
    targets = ts;
    operand = v;
    is = list-row ys ∙ is;
    counted = ap (λ zs. length zs - 1) (list-row ys ∙ is) ∙ last-count ts v;
    aimed = a;
    full = f;
    good = g;
  }
  assigning-over ts v ys (x ∷ xs) e is a f g = absurd cc

  pub assigning_range : (xs : Parts) → Row kind.AssigningRange xs → Unfailing s kind.AssigningRange i j xs → Headed (Q kind.AssigningRange) (node_of s kind.AssigningRange i j xs)
  assigning_range [] r u = absurd r
  assigning_range (None ∷ xs) r u = absurd r
  assigning_range (Some t ∷ []) r u = absurd r.1
  assigning_range (Some t ∷ None ∷ xs) r u = absurd r.1
  assigning_range (Some t ∷ Some v ∷ y ∷ ys) r u = absurd r.1.1
  assigning_range (Some t ∷ Some v ∷ []) r u =
      let k = kind.AssigningRange in
      let left = r.0 in
      let right = r.1.0 in
      let aims : Each (Aimed (Q k)) (held (Some t)) = each-aimed (InTargets true place.Header left.stood) (Q k) (λ a b z. deeper o c k i j ps 0 (category.Targets place.Header) left.stood (left.at refl) a b z.hole z.changes) (held (Some t)) left.read.0 in
      let fine : Fine (Q k) v = operand-fine-in k (Some t ∷ []) v right (lifted o c k i j ps 1 (any place.Header) right.stood (right.at refl) (λ path. refl) (λ e. refl))
      (plain-fine true (any place.Header) value right.stood v refl (λ e. refl) refl right.read) in
      let unheld : held (Some v) ≡ Some v ∷ [] = unheld-row v (right.read.part.unheld right.read.expression) in
      assigning-over (held (Some t)) v (all_held (Some t ∷ Some v ∷ [])) _ u (ap (λ zs. held (Some t) ++ (zs ++ [])) unheld) aims left.read.1 (fine-good (Q k) v fine)

  pub defining_range : (xs : Parts) → Row kind.DefiningRange xs → Unfailing s kind.DefiningRange i j xs → Fine (Q kind.DefiningRange) (node_of s kind.DefiningRange i j xs)
  defining_range [] r u = absurd r
  defining_range (None ∷ xs) r u = absurd r
  defining_range (Some n ∷ []) r u = absurd r.1
  defining_range (Some n ∷ None ∷ xs) r u = absurd r.1
  defining_range (Some n ∷ Some v ∷ y ∷ ys) r u = absurd r.1.1
  defining_range (Some n ∷ Some v ∷ []) r u =
      let k = kind.DefiningRange in
      let right = r.1.0 in
      let fine : Fine (Q k) v = operand-fine-in k (Some n ∷ []) v right (lifted o c k i j ps 1 (any place.Header) right.stood (right.at refl) (λ path. refl) (λ e. refl))
      (plain-fine true (any place.Header) value right.stood v refl (λ e. refl) refl right.read) in
      let unheld : held (Some v) ≡ Some v ∷ [] = unheld-row v (right.read.part.unheld right.read.expression) in
      let ys : Parts = all_held (Some n ∷ Some v ∷ []) in
      let is : ys ≡ held (Some n) ++ Some v ∷ [] = ap (λ zs. held (Some n) ++ (zs ++ [])) unheld in
      let counted : length ys - 1 ≡ length (held (Some n)) = ap (λ zs. length zs - 1) is ∙ last-count (held (Some n)) v in
      let first : NamesFirst (Q k) (length (held (Some n))) (held (Some n) ++ Some v ∷ []) = names-front (Q k) (held (Some n)) (Some v ∷ []) r.0.read (fine-good (Q k) v fine, tt) in
      built-fine (Q k) s k (form.Held k) i j ys (own_faults s k (form.Held k) i j ys) (length ys - 1) u (range-fit (rights_of s) (length ys - 1) (last_part (present ys)))
      (subst (λ m. NamesFirst (Q k) m ys) (sym counted) (subst (NamesFirst (Q k) (length (held (Some n)))) (sym is) first))
