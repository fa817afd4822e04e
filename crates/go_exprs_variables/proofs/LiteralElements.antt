-- Elements of composite literals: from the literal that fits to each element, and the rules of the literal.
use Rattle.std.proofs.Common.{◌≡◌, ◌∙◌, ℕ, zero, suc, Bool, true, false, List, [], ◌∷◌, ◌++◌, map, length, Option, Some, None, refl, sym, ap, subst, nat_lt, arith}
use Rattle.std.proofs.lemmas.Bool.Decides.{nat_tests}
use Rattle.std.proofs.lemmas.Bool.{eqb-true}
use Rattle.std.specs.Prelude.{◌==◌, ◌&&◌, ◌||◌, if◌then◌else◌, is_some}
use Rattle.std.specs.List.{list_all}
use Rattle.go_base.specs.declared.fault.FaultCode.TheVariants as code
use Rattle.go_types.specs.Trees.{TypeTree, TypeRow, array, slice, structure}
use Rattle.go_types.specs.Trees as types
use Rattle.go_types.specs.Relations.{Rights}
use Rattle.go_typed.specs.declared.form.Form.{Form}
use Rattle.go_typed.specs.declared.form.Form.TheVariants as form
use Rattle.go_typed.specs.Trees.{Sort, Label, typed, Typeds, sort_of, form_of, label_of, parts_of, row}
use Rattle.go_typed.specs.Trees as sort
use Rattle.go_exprs_rules.specs.declared.fault.TypeFault.{TypeFault}
use Rattle.go_exprs_rules.specs.Calls.{row_length, all_unassignable, all_as, each_unassignable}
use Rattle.go_exprs_rules.specs.Faults.{fault_at}
use Rattle.go_exprs_rules.specs.Indexes.{type_at}
use Rattle.go_exprs_rules.specs.Literals.{key_in, key_of, is_keyed, has_keys, is_below, first_part, too_many, elements_failing, keyed_type, given_to_field, keyed_unassignable, keyed_failing, fields_failing, literal_failing_in}
use Rattle.go_exprs_rules.specs.Literals.{as_optional, fields_take, literal_takes_in}
use Rattle.go_exprs_rules.specs.Literals as literals
use Rattle.go_exprs_rules.specs.Settling as settling
use Rattle.go_exprs_rules.specs.Settling.{Part, Take, as_type, given, settled, unassignable}
use Rattle.go_exprs_rules.specs.Sorts as sorts
use Rattle.go_exprs_rules.specs.Sorts.{Stands, is_unknown}
use Rattle.go_exprs_rules.specs.Tables.{made, label, all_given, is_held}
use Rattle.clone_window.specs.Masses.{is_hole, is_inside}
use Rattle.go_exprs_variables.specs.Operands.{Alike, none_alike, one_alike, Keyed, none_keyed, one_keyed}
use Rattle.go_exprs_variables.specs.Over.{any_varies, varies_over}
use Rattle.go_exprs_variables.specs.Variables.{Standin, Standins, at_hole, wanted, put_over, put, all_put, put_with, begun, all_begun, Fits, AllFit, WillFit}
use Rattle.go_exprs_variables.proofs.Arguments.{Given, given_value}
use Rattle.go_exprs_variables.proofs.Elements.{elements_row, ordered_row, keyed_row}
use Rattle.go_exprs_variables.proofs.GivenLists.{Known, alike, alike_length, alike_new, Givens, all_pass, all_fine, each_given, row_given, in_order, row_takes}
use Rattle.go_exprs_variables.proofs.Identities.{tree_self}
use Rattle.go_exprs_variables.proofs.Keys.{begun_key, key_calls}
use Rattle.go_exprs_variables.proofs.Lists.{each, All, all_new, Passes, AllPass, AllGiven, all_fit_each}
use Rattle.go_exprs_variables.proofs.Parts.{both_none, holds}
use Rattle.go_exprs_variables.proofs.Ready.{Facts}
use Rattle.go_exprs_variables.proofs.Trees.{is_key, key_settled, put_key, retyped_label}

-- ---- keys

no_key : (f : Form) → is_key f ≡ false → key_in f ≡ None
no_key (form.Keyed n) e = cc
no_key f e = refl

pub unkeyed : (x : Part) → is_key (form_of x) ≡ false → is_keyed x ≡ false
unkeyed x e = ap is_some (no_key (form_of x) e)

-- the element with the key m over its value
abbrev pub key_node : ℕ → ℕ → ℕ → Part → Part
key_node m a b v = made (form.Keyed m) a b (sort_of v) (Some v ∷ []) (Some v ∷ [])

-- each number below the length of a row has a type in it
below_next : (m n : ℕ) → nat_lt (suc m) (suc n) ≡ true → nat_lt m n ≡ true
below_next m n e = grind (arith, nat_tests, e)

not_below : (m : ℕ) → nat_lt m 0 ≡ true → ⊥
not_below m e = grind (arith, nat_tests, e)

field_there : (ts : TypeRow) (m : ℕ) → nat_lt m (row_length ts) ≡ true → (t : TypeTree) × (type_at ts m ≡ Some t)
field_there types.none m e = absurd (not_below m e)
field_there (types.more t ts) zero e = (t, refl)
field_there (types.more t ts) (suc m) e = field_there ts m (below_next m (row_length ts) e)

split_or : (a b : Bool) → (a || b) ≡ false → (a ≡ false) × (b ≡ false)
split_or true b e = cc
split_or false b e = (refl, e)

split_and : (a b : Bool) → (a && b) ≡ true → (a ≡ true) × (b ≡ true)
split_and true b e = (refl, e)
split_and false b e = cc

differ : {X : Type 0} (b : Bool) → b ≡ false → b ≡ true → X
differ true e f = cc
differ false e f = cc

module _ (w : Standins) where
  -- with variables in it what has no key has none
  begun_unkeyed : (x : Part) → is_key (form_of x) ≡ false → is_key (form_of (begun w false x)) ≡ false
  begun_unkeyed (typed f i j l ps) e = by_held (is_held f)
    where
      by_hole : (v : Option Standin) (m : Label TypeTree) (qs : Typeds TypeTree) → is_key (form_of (put_over v f i j m qs)) ≡ false
      by_hole None m qs = e
      by_hole (Some v) m qs = refl

      by_taking : (t : TypeTree) (b : Bool) → is_key (form_of (put w false (if b then typed f i j (retyped_label t l) (settling.all_settled t ps) else typed f i j l ps))) ≡ false
      by_taking t true = by_hole (at_hole w (is_hole false f (retyped_label t l)) i) (retyped_label t l) (all_put w (is_inside false f (retyped_label t l)) (settling.all_settled t ps))
      by_taking t false = by_hole (at_hole w (is_hole false f l) i) l (all_put w (is_inside false f l) ps)

      by_wanted : (o : Option TypeTree) → is_key (form_of (put_with w false o (typed f i j l ps))) ≡ false
      by_wanted None = by_hole (at_hole w (is_hole false f l) i) l (all_put w (is_inside false f l) ps)
      by_wanted (Some t) = by_taking t (sorts.takes_type l.sort)

      held : Part
      held = typed f i j (record l { varies = varies_over l.varies (all_begun w false ps) }) (all_begun w false ps)

      by_held : (b : Bool) → is_key (form_of (if b then held else put_with w false (wanted w false (typed f i j l ps)) (typed f i j l ps))) ≡ false
      by_held true = e
      by_held false = by_wanted (wanted w false (typed f i j l ps))

module _ (w : Standins) (rights : Rights) where
  -- An element: an operand, or one with a key, over its value.
  pub data Element (x : Part) : Type 0 where
    an_operand : is_key (form_of x) ≡ false → Facts w rights x → Element x
    with_key : (m a b : ℕ) (v : Part) → x ≡ key_node m a b v → is_held (form_of v) ≡ false → Facts w rights v → Element x

  abbrev Fine : Part → Type 0
  Fine x = (is_unknown (sort_of x) ≡ false) × WillFit rights w false x

  -- it fits, or its value does
  pub record FineElement (x : Part) : Type 0 where
    pub plain : is_keyed x ≡ false → Fine x
    pub value : is_keyed x ≡ true → (v : Part) → first_part (parts_of x) ≡ Some v → Fine v

  -- ---- elements without keys

  plain_facts : (xs : List Part) → All Element xs → has_keys xs ≡ false → All (Facts w rights) xs
  plain_facts [] es e = tt
  plain_facts (x ∷ xs) es e = let both = split_or (is_keyed x) (has_keys xs) e in (by_element es.0 both.0, plain_facts xs es.1 both.1)
    where
      by_element : Element x → is_keyed x ≡ false → Facts w rights x
      by_element (an_operand k f) e = f
      by_element (with_key m a b v is held f) e = differ (is_keyed x) e (ap is_keyed is)

  plain_fine : (xs : List Part) → has_keys xs ≡ false → All Fine xs → All FineElement xs
  plain_fine [] e fine = tt
  plain_fine (x ∷ xs) e fine =
      let both = split_or (is_keyed x) (has_keys xs) e in
      (record { plain = λ k. fine.0; value = λ k v f. differ (is_keyed x) both.0 k }, plain_fine xs both.1 fine.1)

  key_same : (x : Part) → Element x → is_keyed (begun w false x) ≡ is_keyed x
  key_same x (an_operand k f) = unkeyed (begun w false x) (begun_unkeyed w x k) ∙ sym (unkeyed x k)
  key_same x (with_key m a b v is held f) =
      ap (λ z. is_keyed (begun w false z)) is ∙ ap is_keyed (begun_key rights w m a b (label (form.Keyed m) (sort_of v) (Some v ∷ [])) v held refl) ∙ sym (ap is_keyed is)

  keys_same : (xs : List Part) → All Element xs → has_keys (all_new w xs) ≡ has_keys xs
  keys_same [] es = refl
  keys_same (x ∷ xs) es = ap (λ b. b || has_keys (all_new w xs)) (key_same x es.0) ∙ ap (λ b. is_keyed x || b) (keys_same xs es.1)

  alike_of : (t : TypeTree) (xs : List Part) → All Element xs → Givens w rights (alike (as_type t) xs) xs → Alike rights t xs (all_new w xs)
  alike_of t [] es g = none_alike
  alike_of t (x ∷ xs) es g = one_alike x (begun w false x) xs (all_new w xs) (key_same x es.0) g.0.operand (alike_of t xs es.1 g.1)

  -- ---- an element with a key

  varies_one : (x : Part) → any_varies (sort.more x sort.none) ≡ ((label_of x).varies || false)
  varies_one (typed f i j l ps) = refl

  module _ (t : TypeTree) (m a b : ℕ) (v : Part) where
    abbrev l : Label TypeTree
    l = label (form.Keyed m) (sort_of v) (Some v ∷ [])

    abbrev over : Part → Part
    over y = typed (form.Keyed m) a b (record { sort = sort_of y; varies = any_varies (sort.more y sort.none); calls = l.calls }) (sort.more y sort.none)

    node_is : key_node m a b v ≡ over v
    node_is = ap (λ z. typed (form.Keyed m) a b (record { sort = sort_of v; varies = z; calls = l.calls }) (sort.more v sort.none)) (sym (varies_one v))

    takes_is : settled t (key_node m a b v) ≡ over (settled t v)
    takes_is = ap (settled t) node_is ∙ key_settled w t m a b l v

    value_fits : Fits w false (settled t (key_node m a b v)) → Fits w false (settled t v)
    value_fits fits = (subst (Fits w false) takes_is fits).2.0

    passes : is_held (form_of v) ≡ false → Given w rights (as_type t) (Some t) v → Passes w rights (as_type t) (key_node m a b v)
    passes held g =
        let is = begun_key rights w m a b l v held refl in
        record {
          calls = key_calls rights w m a b l (sort.more v sort.none);
          gives = ap (settled t) is ∙ key_settled w t m a b l (begun w false v) ∙ ap over g.gives ∙ sym (put_key w t false m a b (label_of (over (settled t v))) (sort.more (settled t v) sort.none)) ∙ sym (ap (put w false) takes_is);
          known = ap (λ z. is_unknown (sort_of z)) is ∙ g.known;
        }

  -- what is known of it
  pub record KeyArgued (ts : TypeRow) (x : Part) : Type 0 where
    pub type : TypeTree
    pub value : Part
    pub field : keyed_type ts (key_of x) ≡ Some type
    pub pass : Passes w rights (as_type type) x
    pub first : first_part (parts_of x) ≡ Some value
    pub key : key_of (begun w false x) ≡ key_of x
    pub later : first_part (parts_of (begun w false x)) ≡ Some (begun w false value)
    pub given : Given w rights (as_type type) (Some type) value

  node_argued : (ts : TypeRow) (m a b : ℕ) (v : Part) → is_held (form_of v) ≡ false → Facts w rights v → is_unknown (sort_of v) ≡ false → is_below (row_length ts) (Some m) ≡ true → given_to_field rights (type_at ts m) (Some v) ≡ []
      → Fits w false (given (as_optional (type_at ts m)) (key_node m a b v)) → KeyArgued ts (key_node m a b v)
  node_argued ts m a b v held facts known below e fits =
      let there = field_there ts m below in
      let t = there.0 in
      let old : unassignable rights t v ≡ [] = sym (ap (λ o. given_to_field rights o (Some v)) there.1) ∙ e in
      let g = given_value w rights t v facts known old (value_fits t m a b v (subst (λ o. Fits w false (given (as_optional o) (key_node m a b v))) there.1 fits)) in
      let is = begun_key rights w m a b (label (form.Keyed m) (sort_of v) (Some v ∷ [])) v held refl in
      record { type = t; value = v; field = there.1; pass = passes t m a b v held g; first = refl; key = ap key_of is; later = ap (λ z. first_part (parts_of z)) is; given = g }

  key_argued : (ts : TypeRow) (x : Part) → Element x → Known x → is_below (row_length ts) (key_of x) ≡ true → given_to_field rights (keyed_type ts (key_of x)) (first_part (parts_of x)) ≡ []
      → Fits w false (given (as_optional (keyed_type ts (key_of x))) x) → KeyArgued ts x
  key_argued ts x (an_operand k f) known below e fits = let none : false ≡ true = sym (ap (is_below (row_length ts)) (no_key (form_of x) k)) ∙ below in cc
  key_argued ts x (with_key m a b v is held f) known below e fits =
      subst (KeyArgued ts) (sym is)
      (node_argued ts m a b v held f (ap (λ z. is_unknown (sort_of z)) (sym is) ∙ known) (ap (λ z. is_below (row_length ts) (key_of z)) (sym is) ∙ below)
      (ap (λ z. given_to_field rights (keyed_type ts (key_of z)) (first_part (parts_of z))) (sym is) ∙ e)
      (subst (λ z. Fits w false (given (as_optional (keyed_type ts (key_of z))) z)) is fits))

  abbrev key_takes : TypeRow → List Part → List Take
  key_takes ts xs = map (λ (x : Part). as_optional (keyed_type ts (key_of x))) xs

  keys_argued : (ts : TypeRow) (xs : List Part) → All Element xs → All Known xs → list_all (λ x. is_below (row_length ts) (key_of x)) xs ≡ true → keyed_unassignable rights ts xs ≡ [] → AllGiven w rights (key_takes ts xs) xs
      → All (KeyArgued ts) xs
  keys_argued ts [] es known below e fits = tt
  keys_argued ts (x ∷ xs) es known below e fits =
      let both = split_and (is_below (row_length ts) (key_of x)) (list_all (λ x. is_below (row_length ts) (key_of x)) xs) below in
      let faults = both_none (given_to_field rights (keyed_type ts (key_of x)) (first_part (parts_of x))) (keyed_unassignable rights ts xs) e in
      (key_argued ts x es.0 known.0 both.0 faults.0 fits.0, keys_argued ts xs es.1 known.1 both.1 faults.1 fits.1)

  keys_pass : (ts : TypeRow) (xs : List Part) → All (KeyArgued ts) xs → AllPass w rights (key_takes ts xs) xs
  keys_pass ts [] rs = tt
  keys_pass ts (x ∷ xs) rs = (subst (λ o. Passes w rights (as_optional o) x) (sym rs.0.field) rs.0.pass, keys_pass ts xs rs.1)

  keys_kept : (ts : TypeRow) (xs : List Part) → All (KeyArgued ts) xs → Keyed rights ts xs (all_new w xs)
  keys_kept ts [] rs = none_keyed
  keys_kept ts (x ∷ xs) rs = one_keyed rs.0.type x (begun w false x) rs.0.value (begun w false rs.0.value) xs (all_new w xs) rs.0.key rs.0.field rs.0.first rs.0.later rs.0.given.operand (keys_kept ts xs rs.1)

  takes_kept : (ts : TypeRow) (xs : List Part) → All (KeyArgued ts) xs → key_takes ts (all_new w xs) ≡ key_takes ts xs
  takes_kept ts [] rs = refl
  takes_kept ts (x ∷ xs) rs = ap (λ o. as_optional (keyed_type ts o) ∷ key_takes ts (all_new w xs)) rs.0.key ∙ ap (λ ks. as_optional (keyed_type ts (key_of x)) ∷ ks) (takes_kept ts xs rs.1)

  keys_fine : (ts : TypeRow) (xs : List Part) → All (KeyArgued ts) xs → All FineElement xs
  keys_fine ts [] rs = tt
  keys_fine ts (x ∷ xs) rs = (
    record {
      plain = λ k. let none : false ≡ true = sym k ∙ keyed (key_of x) rs.0.field in cc;
      value = λ k v f. let same : Some rs.0.value ≡ Some v = sym rs.0.first ∙ f in let one : rs.0.value ≡ v = cc in subst Fine one (rs.0.given.ready.known, rs.0.given.fits);
    },
    keys_fine ts xs rs.1,
  )
    where
      keyed : (o : Option ℕ) → keyed_type ts o ≡ Some rs.0.type → is_some o ≡ true
      keyed (Some n) e = refl
      keyed None e = cc

  -- ---- all elements, by the underlying type of the literal

  module _ (i j : ℕ) where
    pub record ElementsArgued (u : Option TypeTree) (xs : List Part) : Type 0 where
      pub pass : AllPass w rights (literal_takes_in u xs) xs
      pub fine : All FineElement xs
      pub failing : literal_failing_in rights i j u (all_new w xs) ≡ []
      pub takes : literal_takes_in u (all_new w xs) ≡ literal_takes_in u xs

    unless_keys : (b : Bool) (fs : List TypeFault) → (if b then fault_at code.Operands i j else fs) ≡ [] → (b ≡ false) × (fs ≡ [])
    unless_keys false fs e = (refl, e)
    unless_keys true fs e = cc

    -- arrays and slices
    sequence_argued : (t : TypeTree) (limit : Option ℕ) (xs : List Part) → All Element xs → All Known xs → elements_failing rights i j t limit xs ≡ [] → AllFit w false (row (all_given (alike (as_type t) xs) (each xs)))
        → AllPass w rights (alike (as_type t) xs) xs × All FineElement xs × (elements_failing rights i j t limit (all_new w xs) ≡ [])
    sequence_argued t limit xs es known rule fits =
        let ok = unless_keys (has_keys xs) (each_unassignable rights t xs ++ too_many limit xs) rule in
        let both = both_none (each_unassignable rights t xs) (too_many limit xs) ok.1 in
        let g = each_given w rights t xs (plain_facts xs es ok.0) known both.0 (all_fit_each w rights (alike (as_type t) xs) xs fits (alike_length (as_type t) xs)) in (
          all_pass w rights (alike (as_type t) xs) xs g,
          plain_fine xs ok.0 (all_fine w rights (alike (as_type t) xs) xs g),
          elements_row rights tree_self i j t limit xs (all_new w xs) (alike_of t xs es g) rule,
        )

    -- structs
    fields_by : (ts : TypeRow) (x : Part) (xs : List Part) (b : Bool) → has_keys (x ∷ xs) ≡ b → All Element (x ∷ xs) → All Known (x ∷ xs)
        → (if b then keyed_failing rights i j ts (x ∷ xs) else literals.ordered_failing rights i j ts (x ∷ xs)) ≡ [] → AllFit w false (row (all_given (if b then key_takes ts (x ∷ xs) else all_as ts) (each (x ∷ xs))))
        → AllPass w rights (if b then key_takes ts (x ∷ xs) else all_as ts) (x ∷ xs) × All FineElement (x ∷ xs)
        × ((if b then keyed_failing rights i j ts (all_new w (x ∷ xs)) else literals.ordered_failing rights i j ts (all_new w (x ∷ xs))) ≡ [])
        × ((if b then key_takes ts (all_new w (x ∷ xs)) else all_as ts) ≡ (if b then key_takes ts (x ∷ xs) else all_as ts))
    fields_by ts x xs true k es known rule fits =
        let all = x ∷ xs in
        let ok = holds (list_all (λ x. is_below (row_length ts) (key_of x)) all) (keyed_unassignable rights ts all) code.Operands i j rule in
        let argued = keys_argued ts all es known ok.0 ok.1 (all_fit_each w rights (key_takes ts all) all fits (takes_length all)) in
        (keys_pass ts all argued, keys_fine ts all argued, keyed_row rights tree_self i j ts all (all_new w all) (keys_kept ts all argued) rule, takes_kept ts all argued)
      where
        takes_length : (ys : List Part) → length (key_takes ts ys) ≡ length ys
        takes_length [] = refl
        takes_length (y ∷ ys) = ap (λ n. suc n) (takes_length ys)
    fields_by ts x xs false k es known rule fits =
        let all = x ∷ xs in
        let ok = holds (row_length ts == length all) (all_unassignable rights ts all) code.Count i j rule in
        let count : row_length ts ≡ length all = eqb-true (row_length ts) (length all) ok.0 in
        let g = row_given w rights ts all (plain_facts all es k) known ok.1 (all_fit_each w rights (all_as ts) all fits (row_takes w rights ts ∙ count)) count in
        (all_pass w rights (all_as ts) all g, plain_fine all k (all_fine w rights (all_as ts) all g), ordered_row rights tree_self i j ts all (all_new w all) (in_order w rights ts all g) rule, refl)

    no_element : (ks : List Take) → AllPass w rights ks []
    no_element [] = tt
    no_element (k ∷ ks) = tt

    pub elements_argued : (u : Option TypeTree) (xs : List Part) → All Element xs → All Known xs → literal_failing_in rights i j u xs ≡ [] → AllFit w false (row (all_given (literal_takes_in u xs) (each xs))) → ElementsArgued u xs
    elements_argued (Some (array n t)) xs es known rule fits =
        let a = sequence_argued t (Some n) xs es known rule fits in record { pass = a.0; fine = a.1; failing = a.2; takes = alike_new w (as_type t) xs }
    elements_argued (Some (slice t)) xs es known rule fits =
        let a = sequence_argued t None xs es known rule fits in record { pass = a.0; fine = a.1; failing = a.2; takes = alike_new w (as_type t) xs }
    elements_argued (Some (structure ns ts)) [] es known rule fits = record { pass = no_element (all_as ts); fine = tt; failing = refl; takes = refl }
    elements_argued (Some (structure ns ts)) (x ∷ xs) es known rule fits =
        let all = x ∷ xs in
        let a = fields_by ts x xs (has_keys all) refl es known rule fits in
        let same = keys_same all es in
        record {
          pass = a.0;
          fine = a.1;
          failing = ap (λ b. if b then keyed_failing rights i j ts (all_new w all) else literals.ordered_failing rights i j ts (all_new w all)) same ∙ a.2;
          takes = ap (λ b. if b then key_takes ts (all_new w all) else all_as ts) same ∙ a.3;
        }
    elements_argued u xs es known rule fits = cc
