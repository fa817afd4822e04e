-- Nodes of expressions over parts whose holes have types.
use Rattle.std.proofs.Common.{◌≡◌, ℕ, Bool, true, false, cond, [], ◌∷◌, List, Some, None, refl, sym, ap, subst, ◌∙◌, true≢false}
use Rattle.std.specs.Prelude.{◌&&◌, ◌||◌, not, is_some}
use Rattle.go_grammar.specs.declared.kind.Kind.{Kind}
use Rattle.go_types.specs.Trees.{TypeTree}
use Rattle.go_types.specs.Relations.{Rights}
use Rattle.go_typed.specs.declared.form.Form.{Form}
use Rattle.go_typed.specs.declared.form.Form.TheVariants as form
use Rattle.go_typed.specs.Trees.{Label, Typed, typed, Typeds, sort_of, row, form_of, label_of, parts_of}
use Rattle.go_typed.specs.Trees as sort
use Rattle.go_exprs_rules.specs.declared.fault.TypeFault.{TypeFault}
use Rattle.go_exprs_rules.specs.Faults.{or_else}
use Rattle.go_exprs_rules.specs.Literals.{is_keyed, key_in, first_part}
use Rattle.go_exprs_rules.specs.Scopes.{Scope, Hint}
use Rattle.go_exprs_rules.specs.Settling.{Part, settled, all_settled}
use Rattle.go_exprs_rules.specs.Sorts.{Stands, is_open, is_unknown, takes_type, retyped}
use Rattle.go_exprs_rules.specs.Tables.{Parts, is_held, is_variable_name, is_placed, is_judged, is_sound, no_faults, own_faults, failing, placing, form_by, sort_by, label, built_by, built_on}
use Rattle.go_stmts_defs.specs.Targets.{is_variable, first_varies, through, is_statement_call}
use Rattle.go_stmts_final_types.specs.Holes.{HolesTyped, AllHolesTyped}
use Rattle.go_stmts_final_types.specs.Known.{IsKnown}
use Rattle.go_stmts_final_types.proofs.Given.{Settles, Done, is_closed, is_valued, labelled, node_typed, open_closed, settled_done}

-- ---- what a node asks of its parts

-- what a node that stands for n asks of a part
pub record Slot (n : Stands) (z : Part) : Type 0 where
  pub now : is_closed n ≡ true → HolesTyped false z
  pub later : (t : TypeTree) → takes_type n ≡ true → HolesTyped false (settled t z)

abbrev pub AllSlots : Stands → Parts → Type 0
AllSlots n [] = Unit {0}
AllSlots n (None ∷ zs) = AllSlots n zs
AllSlots n (Some z ∷ zs) = Slot n z × AllSlots n zs

pub done_slot : (n : Stands) (z : Part) → Done z → Slot n z
done_slot n z h = record { now = λ e. h.now; later = λ t e. h.still t }

-- a node that is no value asks nothing
pub no_slot : (n : Stands) (z : Part) → is_closed n ≡ false → takes_type n ≡ false → Slot n z
no_slot n z c o = record { now = λ e. absurd (true≢false (sym e ∙ c)); later = λ t e. absurd (true≢false (sym e ∙ o)) }

pub no_slots : (n : Stands) → is_closed n ≡ false → takes_type n ≡ false → (zs : Parts) → AllSlots n zs
no_slots n c o [] = tt
no_slots n c o (None ∷ zs) = no_slots n c o zs
no_slots n c o (Some z ∷ zs) = (no_slot n z c o, no_slots n c o zs)

-- a part that takes nothing where its node waits too
pub waiting_slot : (n : Stands) (x : Part) → is_closed n ≡ false → Settles x → is_valued (sort_of x) ≡ true → Slot n x
waiting_slot n x c h v = record { now = λ e. absurd (true≢false (sym e ∙ c)); later = λ t e. (settled_done x h t v).now }

slots_now : (n : Stands) (zs : Parts) → AllSlots n zs → is_closed n ≡ true → AllHolesTyped false (row zs)
slots_now n [] h e = tt
slots_now n (None ∷ zs) h e = slots_now n zs h e
slots_now n (Some z ∷ zs) h e = (h.0.now e, slots_now n zs h.1 e)

slots_later : (n : Stands) (zs : Parts) → AllSlots n zs → (t : TypeTree) → takes_type n ≡ true → AllHolesTyped false (all_settled t (row zs))
slots_later n [] h t e = tt
slots_later n (None ∷ zs) h t e = slots_later n zs h t e
slots_later n (Some z ∷ zs) h t e = (h.0.later t e, slots_later n zs h.1 t e)

closed_still : (t : TypeTree) (s : Stands) → is_open (retyped t s) ≡ false
closed_still t (sort.Open u) = refl
closed_still t sort.Nil = refl
closed_still t (sort.OpenConstant c) = refl
closed_still t s = refl

pub node_settles : (f : Form) (i j : ℕ) (n : Stands) (v c : Bool) (zs : Parts) → AllSlots n zs → Settles (typed f i j (labelled n v c) (row zs))
node_settles f i j n v c zs h = record {
  closed = λ e. node_typed f i j (labelled n v c) (row zs) (open_closed n e) (slots_now n zs h e);
  later = λ t e. subst (HolesTyped false) (sym (ap (λ b. let p : Part = cond b (typed f i j (labelled (retyped t n) v c) (all_settled t (row zs))) (typed f i j (labelled n v c) (row zs)) in p) e)) (node_typed f i j (labelled (retyped t n) v c) (all_settled t (row zs)) (closed_still t n) (slots_later n zs h t e));
}

-- ---- what is known of an expression

-- It is no holder; its holes have types, or have them once it takes one; a variable that has no type has no holes, and isn't known;
-- what is called as a statement has its type; and an element with a key stands for what its value does.
pub record Sound (x : Part) : Type 0 where
  pub plain : is_held (form_of x) ≡ false
  pub settles : Settles x
  pub target : (rights : Rights) → is_open (sort_of x) ≡ true → is_variable rights x ≡ true → ((label_of x).varies ≡ true) × HolesTyped false x × (IsKnown x → ⊥)
  pub called : is_statement_call x ≡ true → is_open (sort_of x) ≡ false
  pub element : is_keyed x ≡ true → is_unknown (sort_of x) ≡ false → (v : Part) × (first_part (parts_of x) ≡ Some v) × (sort_of v ≡ sort_of x)

abbrev pub AllSound : List Part → Type 0
AllSound [] = Unit {0}
AllSound (x ∷ xs) = Sound x × AllSound xs

-- ---- forms

-- neither a variable nor a call, and no holder
abbrev pub is_other : Form → Bool
is_other (form.Local n) = false
is_other (form.Object r) = false
is_other form.Parenthesized = false
is_other (form.Selector n) = false
is_other form.Index = false
is_other form.Call = false
is_other (form.Keyed n) = false
is_other (form.Held k) = false
is_other f = true

plain_other : (f : Form) → is_other f ≡ true → is_held f ≡ false
plain_other (form.Held k) e = cc
plain_other f e = refl

pub unkeyed : (f : Form) → is_other f ≡ true → is_some (key_in f) ≡ false
unkeyed (form.Keyed n) e = cc
unkeyed f e = refl

name_other : (f : Form) → is_other f ≡ true → (s : Stands) → is_variable_name f s ≡ false
name_other (form.Local n) e s = cc
name_other (form.Object r) e s = cc
name_other f e s = refl

through_other : (f : Form) → is_other f ≡ true → (rights : Rights) (x : Stands) (b : Bool) → through rights f x b ≡ false
through_other form.Parenthesized e rights x b = cc
through_other (form.Selector n) e rights x b = cc
through_other form.Index e rights x b = cc
through_other f e rights x b = refl

first_other : (f : Form) → is_other f ≡ true → (rights : Rights) (ps : Typeds TypeTree) → first_varies rights f ps ≡ false
first_other f e rights sort.none = refl
first_other f e rights (sort.more p ps) = through_other f e rights (sort_of p) (is_variable rights p)
first_other f e rights (sort.skip ps) = refl

pub variable_other : (f : Form) → is_other f ≡ true → (rights : Rights) (i j : ℕ) (l : Label TypeTree) (ps : Typeds TypeTree) → is_variable rights (typed f i j l ps) ≡ false
variable_other f e rights i j l ps = ap (λ b. b || first_varies rights f ps) (name_other f e l.sort) ∙ first_other f e rights ps

call_other : (f : Form) → is_other f ≡ true → (i j : ℕ) (l : Label TypeTree) (ps : Typeds TypeTree) → is_statement_call (typed f i j l ps) ≡ false
call_other form.Parenthesized e i j l ps = cc
call_other form.Call e i j l ps = cc
call_other f e i j l ps = refl

-- ---- nodes

pub other_sound : (f : Form) → is_other f ≡ true → (i j : ℕ) (n : Stands) (v c : Bool) (zs : Parts) → AllSlots n zs → Sound (typed f i j (labelled n v c) (row zs))
other_sound f e i j n v c zs h = record {
  plain = plain_other f e;
  settles = node_settles f i j n v c zs h;
  target = λ rights o m. absurd (true≢false (sym m ∙ variable_other f e rights i j (labelled n v c) (row zs)));
  called = λ m. absurd (true≢false (sym m ∙ call_other f e i j (labelled n v c) (row zs)));
  element = λ k u. absurd (true≢false (sym k ∙ unkeyed f e));
}

pub closed_sound : (f : Form) → is_held f ≡ false → is_some (key_in f) ≡ false → (i j : ℕ) (n : Stands) (v c : Bool) (zs : Parts) → is_open n ≡ false → AllSlots n zs → Sound (typed f i j (labelled n v c) (row zs))
closed_sound f p k i j n v c zs o h = record {
  plain = p;
  settles = node_settles f i j n v c zs h;
  target = λ rights m b. absurd (true≢false (sym m ∙ o));
  called = λ m. o;
  element = λ m u. absurd (true≢false (sym m ∙ k));
}

-- ---- a node that has a place

no_failing : (b : Bool) (fs gs : List TypeFault) → (b && no_faults (cond b (or_else fs gs) [])) ≡ true → fs ≡ []
no_failing true [] gs e = refl
no_failing true (f ∷ fs) gs e = cc
no_failing false fs gs e = cc

pub and_first : (a b : Bool) → (a && b) ≡ true → a ≡ true
and_first true b e = refl
and_first false b e = cc

pub and_second : (a b : Bool) → (a && b) ≡ true → b ≡ true
and_second true b e = e
and_second false b e = cc

-- where it stands for something, its parts are known and no rule fails
pub placed_sound : (s : Scope) (k : Kind) (h : Hint) (i j : ℕ) (ys : Parts) → is_placed k ≡ true → is_held (form_by s k h i j ys) ≡ false → is_some (key_in (form_by s k h i j ys)) ≡ false
    → (is_judged ys ≡ true → failing s k h i j ys ≡ [] → Sound (built_by s k h i j ys true)) → Sound (built_on s k h i j ys)
placed_sound s k h i j ys p f g sound = by (is_sound k ys (own_faults s k h i j ys)) refl
  where
    by : (b : Bool) → is_sound k ys (own_faults s k h i j ys) ≡ b → Sound (built_by s k h i j ys b)
    by true e =
        let m : (is_judged ys && no_faults (own_faults s k h i j ys)) ≡ true = subst (λ b. (not b || (is_judged ys && no_faults (own_faults s k h i j ys))) ≡ true) p e in
        sound (and_first (is_judged ys) (no_faults (own_faults s k h i j ys)) m) (no_failing (is_judged ys) (failing s k h i j ys) (placing s k h i j (sort_by s k h i j ys)) m)
    by false e =
        let f' = form_by s k h i j ys in
        let l = label f' sort.Unknown ys in
        closed_sound f' f g i j sort.Unknown l.varies l.calls ys refl (no_slots sort.Unknown refl refl ys)
