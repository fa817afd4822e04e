-- Nodes of two windows that are the same stand for one thing, where the rules of types give both what they stand for.
use Rattle.std.proofs.Common.{◌≡◌, ◌∙◌, ℕ, zero, suc, Bool, true, false, List, Option, Some, None, refl, sym, ap, subst}
use Rattle.std.specs.Prelude.{◌&&◌, not, if◌then◌else◌}
use Rattle.std.proofs.lemmas.Bool.{and_parts}
use Rattle.go_constants.specs.declared.values.Const.{Const}
use Rattle.go_tree.specs.declared.object.Predeclared.{Predeclared}
use Rattle.go_tree.specs.declared.object.Predeclared.TheVariants as predeclared
use Rattle.go_types.specs.Trees.{TypeTree}
use Rattle.go_types.specs.Relations.{Rights}
use Rattle.go_typed.specs.declared.form.Form.{Form}
use Rattle.go_typed.specs.declared.form.Form.TheVariants as form
use Rattle.go_typed.specs.declared.form.Referent.{Referent}
use Rattle.go_typed.specs.declared.form.Referent.TheVariants as referent
use Rattle.go_typed.specs.Forms.{local_of}
use Rattle.go_typed.specs.Trees.{Label, Typed, typed, Typeds, form_of, sort_of, Nothing, Unknown, Blank, Nil, Builtin, Println, Package, IsType, Value, Constant, Open, OpenConstant, Results}
use Rattle.go_typed.specs.Trees as trees
use Rattle.go_exprs_rules.specs.Sorts.{Stands, own_type, named_type, underlying_in}
use Rattle.go_exprs_rules.specs.Literals.{key_in}
use Rattle.go_exprs_rules.specs.Indexes.{field_type, index_sort, value_or_unknown}
use Rattle.clone_window.specs.Masses.{is_constant_expression, is_hole}
use Rattle.clone_window.specs.Sameness.{agree_besides, compared, final, same_final, are_alike}
use Rattle.extract_trees.specs.Numberings.{Numbering}
use Rattle.extract_trees.specs.Standing.{Around, part_sort, as_value, skips_first, Working, comparing, shifting, meeting, working, operation_waits, operand_told, waits, is_waiting, first_waits, second_waits}
use Rattle.extract_trees.specs.Standing.{builtin_sort, object_sort, call_sort, operation_sort, literal_sort, sort_by, builtin_told, argument_told, told_in, are_quiet, HasOther, IsRuled, ConstantOr, IsTyped, IsSettled, AreSettled}
use Rattle.extract_trees.specs.Windows.{IsExact}
use Rattle.extract_trees.specs.OneCopy.{AreOneSort, same, constant, untyped, target, no_target}
use Rattle.extract_trees.proofs.Sorts.{types_one, blanks_one, constants_one}
use Rattle.extract_trees.proofs.Pairs.{AreForms, IsPair, ArePairs}
use Rattle.extract_trees.proofs.Pairs as pairs

-- ---- what rules see of two sorts

-- one sort, or two constants of one type
pub data AreOneType : Stands → Stands → Type 0 where
  alike : {s t : Stands} → AreOneSort s t → AreOneType s t
  values : {t : TypeTree} {v w : Const} → AreOneType (Constant t v) (Constant t w)

pub own_one : {s t : Stands} → AreOneType s t → own_type s ≡ own_type t
own_one (alike same) = refl
own_one (alike (constant h)) = refl
own_one (alike (untyped h)) = refl
own_one (alike target) = refl
own_one (alike no_target) = refl
own_one values = refl

pub named_one : {s t : Stands} → AreOneType s t → named_type s ≡ named_type t
named_one (alike same) = refl
named_one (alike (constant h)) = refl
named_one (alike (untyped h)) = refl
named_one (alike target) = refl
named_one (alike no_target) = refl
named_one values = refl

pub type_by : {s t x y : Stands} → s ≡ x → t ≡ y → AreOneType x y → AreOneType s t
type_by {s} {t} {x} {y} e f h = subst (λ z. AreOneType z t) (sym e) (subst (λ z. AreOneType x z) (sym f) h)

pub equal_by : {s t x y : Stands} → s ≡ x → t ≡ y → x ≡ y → AreOneType s t
equal_by {s} {t} {x} {y} e f h = type_by e (f ∙ sym h) (alike same)

as_value_again : (t : Option TypeTree) → as_value (value_or_unknown t) ≡ value_or_unknown t
as_value_again None = refl
as_value_again (Some t) = refl

-- ---- calls

-- What two calls stand for whose callees are one, where their first arguments are one.
builtins_one : (p : Predeclared) (ps qs : Typeds TypeTree) → (((r : Rights) (xs : Typeds TypeTree) → builtin_told r p xs 0 ≡ None) → AreOneType (part_sort ps 1) (part_sort qs 1)) →
    builtin_sort p ps ≡ builtin_sort p qs
builtins_one predeclared.Append ps qs h = ap value_or_unknown (own_one (h (λ r xs. refl)))
builtins_one predeclared.Make ps qs h = ap value_or_unknown (named_one (h (λ r xs. refl)))
builtins_one predeclared.Max ps qs h = ap value_or_unknown (own_one (h (λ r xs. refl)))
builtins_one predeclared.Min ps qs h = ap value_or_unknown (own_one (h (λ r xs. refl)))
builtins_one p ps qs h = refl

same_callee : (x : Stands) (rights : Rights) (ps qs : Typeds TypeTree) →
    ((p : Predeclared) → x ≡ Builtin p → ((r : Rights) (xs : Typeds TypeTree) → builtin_told r p xs 0 ≡ None) → AreOneType (part_sort ps 1) (part_sort qs 1)) → call_sort rights x ps ≡ call_sort rights x qs
same_callee (Builtin p) rights ps qs h = builtins_one p ps qs (h p refl)
same_callee x rights ps qs h = refl

callees_one : (x y : Stands) (rights : Rights) (ps qs : Typeds TypeTree) → AreOneType x y →
    ((p : Predeclared) → x ≡ Builtin p → y ≡ Builtin p → ((r : Rights) (xs : Typeds TypeTree) → builtin_told r p xs 0 ≡ None) → AreOneType (part_sort ps 1) (part_sort qs 1)) → call_sort rights x ps ≡ call_sort rights y qs
callees_one x y rights ps qs (alike same) h = same_callee x rights ps qs (λ p e. h p e e)
callees_one x y rights ps qs (alike (constant k)) h = refl
callees_one x y rights ps qs (alike (untyped k)) h = refl
callees_one x y rights ps qs (alike target) h = refl
callees_one x y rights ps qs (alike no_target) h = refl
callees_one x y rights ps qs values h = refl

-- ---- literals

literal_written : (told : Option TypeTree) (ps : Typeds TypeTree) → skips_first ps ≡ false → literal_sort told ps ≡ value_or_unknown (named_type (part_sort ps 0))
literal_written told trees.none h = refl
literal_written told (trees.more p ps) h = refl
literal_written told (trees.skip ps) h = cc

literal_left_out : (told : Option TypeTree) (ps : Typeds TypeTree) → skips_first ps ≡ true → literal_sort told ps ≡ value_or_unknown told
literal_left_out told trees.none h = cc
literal_left_out told (trees.more p ps) h = cc
literal_left_out told (trees.skip ps) h = refl

-- ---- nodes that wait, and those that don't

pub hole_constant : (f : Form) (l : Label TypeTree) → is_hole false f l ≡ true → is_constant_expression f l ≡ true
hole_constant f l h = (and_parts (is_constant_expression f l) (not l.varies) h).0

constant_rests : (b x : Bool) → b ≡ true → (not b && x) ≡ false
constant_rests true x e = refl
constant_rests false x e = cc

other_waits : (b x : Bool) → b ≡ false → (not b && x) ≡ x
other_waits true x e = cc
other_waits false x e = refl

waiting_open : (b x : Bool) → (not b && x) ≡ true → (b ≡ false) × (x ≡ true)
waiting_open true x e = cc
waiting_open false x e = (refl, e)

-- what is asked of a node that is no constant, and of a constant
pub ruled : (b : Bool) (s : Stands) (q : Bool) (R : Type 0) → b ≡ false → ConstantOr b s q R → R
ruled true s q R e h = cc
ruled false s q R e h = h

pub constant_asked : (b : Bool) (s : Stands) (q : Bool) (R : Type 0) → b ≡ true → ConstantOr b s q R → IsTyped s × (q ≡ true)
constant_asked true s q R e h = h
constant_asked false s q R e h = cc

-- two tests of which not both hold
meeting_by : {A : Type 0} (x y : Bool) → (x && y) ≡ false → (x ≡ false → A) → (y ≡ false → A) → A
meeting_by true y h f g = g h
meeting_by false y h f g = f refl

module _ (identical : TypeTree → TypeTree → Bool) (exact : IsExact identical) (w : Around) (here there : List Stands) (c d : Numbering) where
  abbrev pub Pair : Typed TypeTree → Typed TypeTree → Type 0
  Pair = IsPair identical exact here there c d

  abbrev pub Pairs : Typeds TypeTree → Typeds TypeTree → Type 0
  Pairs = ArePairs identical exact here there c d

  abbrev pub Forms : Form → Form → Type 0
  Forms = AreForms identical exact here there c d

  pub skips_one : {ps qs : Typeds TypeTree} → Pairs ps qs → skips_first ps ≡ skips_first qs
  skips_one pairs.none = refl
  skips_one (pairs.more p ps) = refl
  skips_one (pairs.skip ps) = refl

  waits_one : {f g : Form} {a b e a' b' e' : Bool} → Forms f g → a ≡ a' → b ≡ b' → e ≡ e' → waits f a b e ≡ waits g a' b' e'
  waits_one {f} {g} {a} {b} {e} {a'} {b'} {e'} (pairs.one h k) x y z = ap (λ r. waits f r b e) x ∙ ap (λ r. waits f a' r e) y ∙ ap (λ r. waits f a' b' r) z
  waits_one (pairs.used h k) x y z = refl
  waits_one (pairs.new h k) x y z = refl
  waits_one (pairs.declared h k) x y z = refl
  waits_one pairs.holders x y z = refl

  mutual
    pub waiting_one : {t u : Typed TypeTree} → Pair t u → is_waiting t ≡ is_waiting u
    waiting_one (pairs.hole {f = f} {g = g} {l = l} {n = n} {ps = ps} {qs = qs} h k s o) =
        constant_rests (is_constant_expression f l) (waits f (skips_first ps) (first_waits ps) (second_waits ps)) (hole_constant f l h)
        ∙ sym (constant_rests (is_constant_expression g n) (waits g (skips_first qs) (first_waits qs) (second_waits qs)) (hole_constant g n k))
    waiting_one (pairs.constant {f = f} {g = g} {l = l} {n = n} {ps = ps} {qs = qs} h k x y o e) =
        constant_rests (is_constant_expression f l) (waits f (skips_first ps) (first_waits ps) (second_waits ps)) x
        ∙ sym (constant_rests (is_constant_expression g n) (waits g (skips_first qs) (first_waits qs) (second_waits qs)) y)
    waiting_one (pairs.node {f = f} {g = g} {l = l} {n = n} {ps = ps} {qs = qs} x y o e parts) =
        other_waits (is_constant_expression f l) (waits f (skips_first ps) (first_waits ps) (second_waits ps)) x
        ∙ waits_one o (skips_one parts) (first_one parts) (second_one parts)
        ∙ sym (other_waits (is_constant_expression g n) (waits g (skips_first qs) (first_waits qs) (second_waits qs)) y)

    pub first_one : {ps qs : Typeds TypeTree} → Pairs ps qs → first_waits ps ≡ first_waits qs
    first_one pairs.none = refl
    first_one (pairs.more p ps) = waiting_one p
    first_one (pairs.skip ps) = refl

    pub second_one : {ps qs : Typeds TypeTree} → Pairs ps qs → second_waits ps ≡ second_waits qs
    second_one pairs.none = refl
    second_one (pairs.more p ps) = first_one ps
    second_one (pairs.skip ps) = first_one ps

  -- ---- what waits has the type that it is told

  operation_waiting : (k : Working) (told : Option TypeTree) (s : Stands) (ps : Typeds TypeTree) → operation_waits k (first_waits ps) (second_waits ps) ≡ true →
      (operand_told k told s ps 0 ≡ told → first_waits ps ≡ true → part_sort ps 0 ≡ value_or_unknown told) → operation_sort k told (part_sort ps 0) ≡ value_or_unknown told
  operation_waiting comparing told s ps h r = refl
  operation_waiting shifting told s ps h r = ap as_value (r refl h) ∙ as_value_again told
  operation_waiting meeting told s ps h r = ap as_value (r (ap (λ b. if b then told else own_type s) h) (and_parts (first_waits ps) (second_waits ps) h).0) ∙ as_value_again told

  abbrev tells : Option TypeTree → Form → Label TypeTree → Typeds TypeTree → ℕ → Option ℕ → Option TypeTree
  tells told f l ps = told_in w told f l.sort ps

  -- of a node, given the same of its first part
  waiting_by : (locals : List Stands) (told : Option TypeTree) (f : Form) (l : Label TypeTree) (ps : Typeds TypeTree) → l.sort ≡ sort_by w locals told f l.sort ps →
      waits f (skips_first ps) (first_waits ps) (second_waits ps) ≡ true → (((key : Option ℕ) → tells told f l ps 0 key ≡ told) → first_waits ps ≡ true → part_sort ps 0 ≡ value_or_unknown told) → l.sort ≡ value_or_unknown told
  waiting_by locals told (form.Object (referent.Predeclared predeclared.Nil)) l ps s h r = s
  waiting_by locals told form.Parenthesized l ps s h r = s ∙ r (λ key. refl) h
  waiting_by locals told (form.Keyed n) l ps s h r = s ∙ r (λ key. refl) h
  waiting_by locals told form.Composite l ps s h r = s ∙ literal_left_out told ps h
  waiting_by locals told (form.Unary o) l ps s h r = s ∙ ap as_value (r (λ key. refl) h) ∙ as_value_again told
  waiting_by locals told (form.Binary o) l ps s h r = s ∙ operation_waiting (working o) told l.sort ps h (λ e k. r (λ key. e) k)
  waiting_by locals told f l ps s h r = cc

  mutual
    pub waiting_sort : (locals : List Stands) (told : Option TypeTree) (t : Typed TypeTree) → IsSettled w locals told t → is_waiting t ≡ true → sort_of t ≡ value_or_unknown told
    waiting_sort locals told (typed f i j l ps) s h =
        let p = waiting_open (is_constant_expression f l) (waits f (skips_first ps) (first_waits ps) (second_waits ps)) h in
        let r : IsRuled w locals told f l ps × AreSettled w locals (tells told f l ps) ps =
        ruled (is_constant_expression f l) l.sort (not l.calls && are_quiet ps) (IsRuled w locals told f l ps × AreSettled w locals (tells told f l ps) ps) p.0 s in
        waiting_by locals told f l ps r.0.stands p.1 (λ e k. first_sort locals (tells told f l ps) told e ps r.1 k)

    first_sort : (locals : List Stands) (tell : ℕ → Option ℕ → Option TypeTree) (told : Option TypeTree) → ((key : Option ℕ) → tell 0 key ≡ told) → (ps : Typeds TypeTree) → AreSettled w locals tell ps → first_waits ps ≡ true →
        part_sort ps 0 ≡ value_or_unknown told
    first_sort locals tell told e trees.none s h = cc
    first_sort locals tell told e (trees.more p ps) s h = waiting_sort locals (tell 0 (key_in (form_of p))) p s.0 h ∙ ap value_or_unknown (e (key_in (form_of p)))
    first_sort locals tell told e (trees.skip ps) s h = cc

  -- ---- what doesn't wait stands for what its parts give

  -- what is known of the parts of two nodes
  pub record Parts (told told' : ℕ → Option ℕ → Option TypeTree) (ps qs : Typeds TypeTree) : Type 0 where
    pub skips : skips_first ps ≡ skips_first qs
    pub first : first_waits ps ≡ false → AreOneType (part_sort ps 0) (part_sort qs 0)
    pub second : second_waits ps ≡ false → AreOneType (part_sort ps 1) (part_sort qs 1)
    -- two that are told one thing
    pub at : (k : ℕ) (t : Option TypeTree) → ((key : Option ℕ) → told k key ≡ t) → ((key : Option ℕ) → told' k key ≡ t) → AreOneType (part_sort ps k) (part_sort qs k)

  operations_one : (k : Working) (told told' : Option TypeTree) (s t : Stands) (ps qs : Typeds TypeTree) → operation_waits k (first_waits ps) (second_waits ps) ≡ false →
      s ≡ operation_sort k told (part_sort ps 0) → t ≡ operation_sort k told' (part_sort qs 0) → HasOther k s (part_sort ps 1) → HasOther k t (part_sort qs 1) →
      (first_waits ps ≡ false → AreOneType (part_sort ps 0) (part_sort qs 0)) → (second_waits ps ≡ false → AreOneType (part_sort ps 1) (part_sort qs 1)) → AreOneType s t
  operations_one comparing told told' s t ps qs h e e' o o' f g = cc
  operations_one shifting told told' s t ps qs h e e' o o' f g = equal_by e e' (ap value_or_unknown (own_one (f h)))
  operations_one meeting told told' s t ps qs h e e' o o' f g =
      meeting_by (first_waits ps) (second_waits ps) h (λ k. equal_by e e' (ap value_or_unknown (own_one (f k)))) (λ k. equal_by o o' (ap value_or_unknown (own_one (g k))))

  -- an object but `nil`
  objects_one : (told told' : Option TypeTree) (r : Referent) (a b e : Bool) → waits (form.Object r) a b e ≡ false → object_sort w told r ≡ object_sort w told' r
  objects_one told told' (referent.Predeclared predeclared.Nil) a b e h = cc
  objects_one told told' r a b e h = refl

  -- of one form, which names no local
  one_by : (told told' : Option TypeTree) (f : Form) (l n : Label TypeTree) (ps qs : Typeds TypeTree) → local_of f ≡ None → agree_besides identical (compared f) (compared f) l.sort n.sort ≡ true →
      IsRuled w here told f l ps → IsRuled w there told' f n qs → waits f (skips_first ps) (first_waits ps) (second_waits ps) ≡ false → Parts (tells told f l ps) (tells told' f n qs) ps qs → AreOneType l.sort n.sort
  one_by told told' (form.Held q) l n ps qs h b r r' k p = let z = r.holder in cc
  one_by told told' (form.Local m) l n ps qs h b r r' k p = cc
  one_by told told' (form.New m) l n ps qs h b r r' k p = cc
  one_by told told' (form.Declared m) l n ps qs h b r r' k p = cc
  one_by told told' (form.Object o) l n ps qs h b r r' k p = equal_by r.stands r'.stands (objects_one told told' o (skips_first ps) (first_waits ps) (second_waits ps) k)
  one_by told told' form.Blank l n ps qs h b r r' k p = alike (blanks_one identical exact l.sort n.sort r.stands r'.stands b)
  one_by told told' form.Type l n ps qs h b r r' k p = alike (types_one identical exact l.sort n.sort r.stands r'.stands b)
  one_by told told' form.Parenthesized l n ps qs h b r r' k p = type_by r.stands r'.stands (p.first k)
  one_by told told' (form.Keyed m) l n ps qs h b r r' k p = type_by r.stands r'.stands (p.first k)
  one_by told told' (form.Selector m) l n ps qs h b r r' k p =
      equal_by r.stands r'.stands (ap (λ t. value_or_unknown (field_type (underlying_in w.rights t) m)) (own_one (p.at 0 None (λ key. refl) (λ key. refl))))
  one_by told told' form.Index l n ps qs h b r r' k p =
      equal_by r.stands r'.stands (ap (λ t. index_sort w.rights (value_or_unknown t)) (own_one (p.at 0 None (λ key. refl) (λ key. refl))))
  one_by told told' form.Slice l n ps qs h b r r' k p = equal_by r.stands r'.stands (ap value_or_unknown (own_one (p.at 0 None (λ key. refl) (λ key. refl))))
  one_by told told' form.Call l n ps qs h b r r' k p =
      equal_by r.stands r'.stands (callees_one (part_sort ps 0) (part_sort qs 0) w.rights ps qs (p.at 0 None (λ key. refl) (λ key. refl))
      (λ q e e' z. p.at 1 None (λ key. ap (λ x. argument_told w.rights x ps 0) e ∙ z w.rights ps) (λ key. ap (λ x. argument_told w.rights x qs 0) e' ∙ z w.rights qs)))
  one_by told told' form.Conversion l n ps qs h b r r' k p = equal_by r.stands r'.stands (ap value_or_unknown (named_one (p.at 0 None (λ key. refl) (λ key. refl))))
  one_by told told' form.Composite l n ps qs h b r r' k p =
      equal_by (r.stands ∙ literal_written told ps k) (r'.stands ∙ literal_written told' qs (sym p.skips ∙ k)) (ap value_or_unknown (named_one (p.at 0 None (λ key. refl) (λ key. refl))))
  one_by told told' (form.Unary o) l n ps qs h b r r' k p = equal_by r.stands r'.stands (ap value_or_unknown (own_one (p.first k)))
  one_by told told' (form.Binary o) l n ps qs h b r r' k p =
      operations_one (working o) told told' l.sort n.sort ps qs k r.stands r'.stands r.other r'.other p.first p.second
  one_by told told' f l n ps qs h b r r' k p = equal_by r.stands r'.stands refl

  node_one : (told told' : Option TypeTree) (f g : Form) (l n : Label TypeTree) (ps qs : Typeds TypeTree) → Forms f g → agree_besides identical (compared f) (compared g) l.sort n.sort ≡ true →
      IsRuled w here told f l ps → IsRuled w there told' g n qs → waits f (skips_first ps) (first_waits ps) (second_waits ps) ≡ false → Parts (tells told f l ps) (tells told' g n qs) ps qs → AreOneType l.sort n.sort
  node_one told told' f g l n ps qs (pairs.one h k) b r r' z p = one_by told told' f l n ps qs h b r r' z p
  node_one told told' f g l n ps qs (pairs.used o e) b r r' z p = type_by r.stands r'.stands (alike o)
  node_one told told' f g l n ps qs (pairs.new o e) b r r' z p = type_by r.stands r'.stands (alike o)
  node_one told told' f g l n ps qs (pairs.declared o e) b r r' z p = type_by r.stands r'.stands (alike o)
  node_one told told' f g l n ps qs pairs.holders b r r' z p = let y = r.holder in cc

  -- two holes, whose types are identical
  holes_one : (s t : Stands) → IsTyped s → IsTyped t → same_final identical (final s) (final t) ≡ true → AreOneType s t
  holes_one s t (u, v, e) (u', v', e') h =
      let k : same_final identical (final (Constant u v)) (final (Constant u' v')) ≡ true = subst (λ x. same_final identical (final x) (final (Constant u' v')) ≡ true) e (subst (λ x. same_final identical (final s) (final x) ≡ true) e' h) in
      type_by e e' (subst (λ x. AreOneType (Constant u v) (Constant x v')) (exact u u' k) values)

  -- two other constants
  pub constants_by : (s t : Stands) → IsTyped s → IsTyped t → are_alike identical s t ≡ true → AreOneSort s t
  constants_by s t (u, v, e) (u', v', e') h =
      let k = constants_one identical exact s t u u' v v' e e' h in
      subst (λ x. AreOneSort x t) (sym e) (subst (λ x. AreOneSort (Constant u v) x) (sym e') (subst (λ x. AreOneSort (Constant u v) (Constant x v')) k.0 (constant k.1)))

  abbrev Ruled : List Stands → Option TypeTree → Form → Label TypeTree → Typeds TypeTree → Type 0
  Ruled locals told f l ps = IsRuled w locals told f l ps × AreSettled w locals (tells told f l ps) ps

  -- what a tree is settled by that is no constant
  pub rules_of : (locals : List Stands) (told : Option TypeTree) (f : Form) (i j : ℕ) (l : Label TypeTree) (ps : Typeds TypeTree) → is_constant_expression f l ≡ false → IsSettled w locals told (typed f i j l ps) → Ruled locals told f l ps
  rules_of locals told f i j l ps e s = ruled (is_constant_expression f l) l.sort (not l.calls && are_quiet ps) (Ruled locals told f l ps) e s

  pub type_of_constant : (locals : List Stands) (told : Option TypeTree) (f : Form) (i j : ℕ) (l : Label TypeTree) (ps : Typeds TypeTree) → is_constant_expression f l ≡ true → IsSettled w locals told (typed f i j l ps) →
      IsTyped l.sort × ((not l.calls && are_quiet ps) ≡ true)
  type_of_constant locals told f i j l ps e s = constant_asked (is_constant_expression f l) l.sort (not l.calls && are_quiet ps) (Ruled locals told f l ps) e s

  told_by : (b : Bool) {s t : Stands} (told : Option TypeTree) → (b ≡ true → s ≡ value_or_unknown told) → (b ≡ true → t ≡ value_or_unknown told) → (b ≡ false → AreOneType s t) → AreOneType s t
  told_by true told f g h = equal_by (f refl) (g refl) refl
  told_by false told f g h = h refl

  mutual
    -- what doesn't wait, whatever it is told
    pub free_one : {t u : Typed TypeTree} (told told' : Option TypeTree) → Pair t u → IsSettled w here told t → IsSettled w there told' u → is_waiting t ≡ false → AreOneType (sort_of t) (sort_of u)
    free_one told told' (pairs.hole {f = f} {g = g} {i = i} {j = j} {k = k} {m = m} {l = l} {n = n} {ps = ps} {qs = qs} x y z o) s s' h =
        holes_one l.sort n.sort (type_of_constant here told f i j l ps (hole_constant f l x) s).0 (type_of_constant there told' g k m n qs (hole_constant g n y) s').0 z
    free_one told told' (pairs.constant {f = f} {g = g} {i = i} {j = j} {k = k} {m = m} {l = l} {n = n} {ps = ps} {qs = qs} x y e e' o z) s s' h =
        alike (constants_by l.sort n.sort (type_of_constant here told f i j l ps e s).0 (type_of_constant there told' g k m n qs e' s').0 z)
    free_one told told' (pairs.node {f = f} {g = g} {i = i} {j = j} {k = k} {m = m} {l = l} {n = n} {ps = ps} {qs = qs} x y o b parts) s s' h =
        let r = rules_of here told f i j l ps x s in
        let r' = rules_of there told' g k m n qs y s' in
        node_one told told' f g l n ps qs o b r.0 r'.0 (sym (other_waits (is_constant_expression f l) (waits f (skips_first ps) (first_waits ps) (second_waits ps)) x) ∙ h)
        (record {
          skips = skips_one parts;
          first = λ e. first_free (tells told f l ps) (tells told' g n qs) parts r.1 r'.1 e;
          second = λ e. second_free (tells told f l ps) (tells told' g n qs) parts r.1 r'.1 e;
          at = λ q t e e'. part_one (tells told f l ps) (tells told' g n qs) parts r.1 r'.1 q t e e';
        })

    pub first_free : {ps qs : Typeds TypeTree} (tell tell' : ℕ → Option ℕ → Option TypeTree) → Pairs ps qs → AreSettled w here tell ps → AreSettled w there tell' qs → first_waits ps ≡ false → AreOneType (part_sort ps 0) (part_sort qs 0)
    first_free tell tell' pairs.none s s' h = alike same
    first_free tell tell' (pairs.more {p = p} {q = q} x xs) s s' h = free_one (tell 0 (key_in (form_of p))) (tell' 0 (key_in (form_of q))) x s.0 s'.0 h
    first_free tell tell' (pairs.skip xs) s s' h = alike same

    pub second_free : {ps qs : Typeds TypeTree} (tell tell' : ℕ → Option ℕ → Option TypeTree) → Pairs ps qs → AreSettled w here tell ps → AreSettled w there tell' qs → second_waits ps ≡ false → AreOneType (part_sort ps 1) (part_sort qs 1)
    second_free tell tell' pairs.none s s' h = alike same
    second_free tell tell' (pairs.more x xs) s s' h = first_free (λ k. tell (suc k)) (λ k. tell' (suc k)) xs s.1 s'.1 h
    second_free tell tell' (pairs.skip xs) s s' h = first_free (λ k. tell (suc k)) (λ k. tell' (suc k)) xs s s' h

    pub part_one : {ps qs : Typeds TypeTree} (tell tell' : ℕ → Option ℕ → Option TypeTree) → Pairs ps qs → AreSettled w here tell ps → AreSettled w there tell' qs → (k : ℕ) (t : Option TypeTree) →
        ((key : Option ℕ) → tell k key ≡ t) → ((key : Option ℕ) → tell' k key ≡ t) → AreOneType (part_sort ps k) (part_sort qs k)
    part_one tell tell' pairs.none s s' k t e e' = alike same
    part_one tell tell' (pairs.more {p = p} {q = q} x xs) s s' zero t e e' =
        let r : IsSettled w here t p = subst (λ z. IsSettled w here z p) (e (key_in (form_of p))) s.0 in
        let r' : IsSettled w there t q = subst (λ z. IsSettled w there z q) (e' (key_in (form_of q))) s'.0 in
        told_by (is_waiting p) t (λ h. waiting_sort here t p r h) (λ h. waiting_sort there t q r' (sym (waiting_one x) ∙ h)) (λ h. free_one t t x r r' h)
    part_one tell tell' (pairs.more x xs) s s' (suc k) t e e' = part_one (λ m. tell (suc m)) (λ m. tell' (suc m)) xs s.1 s'.1 k t e e'
    part_one tell tell' (pairs.skip xs) s s' zero t e e' = alike same
    part_one tell tell' (pairs.skip xs) s s' (suc k) t e e' = part_one (λ m. tell (suc m)) (λ m. tell' (suc m)) xs s s' k t e e'

  -- what is told one thing
  pub told_one : {t u : Typed TypeTree} (told : Option TypeTree) → Pair t u → IsSettled w here told t → IsSettled w there told u → AreOneType (sort_of t) (sort_of u)
  told_one {t} {u} told p s s' =
      told_by (is_waiting t) told (λ h. waiting_sort here told t s h) (λ h. waiting_sort there told u s' (sym (waiting_one p) ∙ h)) (λ h. free_one told told p s s' h)
