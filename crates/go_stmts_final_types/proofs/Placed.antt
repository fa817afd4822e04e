-- Names that stand as they may stand for something known, where what they mean does.
use Rattle.std.proofs.Common.{◌≡◌, ℕ, ◌<◌, true, false, [], ◌∷◌, ◌++◌, Option, Some, None, refl, sym, subst}
use Rattle.go_grammar.specs.declared.kind.Kind.{Kind}
use Rattle.go_grammar.specs.declared.kind.Kind.TheVariants as kind
use Rattle.go_grammar.specs.Trees.{Tree, node, Trees, none, more, skip, kind_of}
use Rattle.go_tree.specs.declared.object.Object.{Object}
use Rattle.go_tree.specs.declared.object.Object.TheVariants as object
use Rattle.go_tree.specs.declared.object.Predeclared.{Predeclared}
use Rattle.go_tree.specs.declared.object.Predeclared.TheVariants as predeclared
use Rattle.go_types.specs.Relations.{Rights}
use Rattle.go_typed.specs.declared.form.Form.{Form}
use Rattle.go_typed.specs.declared.form.Form.TheVariants as form
use Rattle.go_typed.specs.declared.form.Referent.{Referent}
use Rattle.go_typed.specs.declared.form.Referent.TheVariants as referent
use Rattle.go_typed.specs.Trees as sort
use Rattle.go_exprs_rules.specs.Names.{predeclared_sort, object_sort, object_form, form_or_type, need_of}
use Rattle.go_exprs_rules.specs.Scopes.{Needed, in_full, at_once, loosely, Scope, Hint, declares, free}
use Rattle.go_exprs_rules.specs.Sorts.{Stands, is_open}
use Rattle.go_exprs_rules.specs.Tables.{Parts, hint, part_scope}
use Rattle.go_exprs_rules.specs.Typing.{typing}
use Rattle.go_stmts_defs.specs.Frames.{Locals}
use Rattle.go_stmts_final_types.specs.Known.{is_package_variable, VariableIsTyped}
use Rattle.go_stmts_final_types.specs.Names.{Standing, alone, is_fit, KeepsFamily, IsKnownName, NameIsKnown, NodeIsKnown, standing_in, ExpressionIsKnown, ExpressionsAreKnown}
use Rattle.go_stmts_final_types.specs.Placed.{IsKnownObject, IsGood, ObjectsAreGood, LocalsAreGood, IsDeclared, MayStand, NameIsPlaced, NodeIsPlaced, ExpressionIsPlaced, ExpressionsArePlaced}
use Rattle.go_stmts_final_types.proofs.Facts.{alone_fits}

-- ---- one name

need_full : (n : Needed) (h : Hint) → n ≡ in_full → need_of n h ≡ in_full
need_full in_full h e = refl
need_full at_once h e = let never : ⊥ = cc in absurd never
need_full loosely h e = let never : ⊥ = cc in absurd never

predeclared_fit : (n : ℕ) (b : Predeclared) → is_fit alone (predeclared_sort n b) ≡ true
predeclared_fit n predeclared.Bool = refl
predeclared_fit n b = refl

predeclared_family : (rights : Rights) (n : ℕ) (b : Predeclared) → KeepsFamily rights (predeclared_sort n b)
predeclared_family rights n predeclared.Bool = tt
predeclared_family rights n b = tt

-- of what is no object of the package the form is no variable of it
outer_typed : (x y : Stands) (f : Form) → is_package_variable f ≡ false → VariableIsTyped (is_package_variable (form_or_type x f)) y
outer_typed (sort.IsType t) y f e = tt
outer_typed x y f e = subst (λ b. VariableIsTyped b y) (sym e) tt

good_typed : (r : Referent) (x : Stands) → ((k : ℕ) → r ≡ referent.Variable k → is_open x ≡ false) → VariableIsTyped (is_package_variable (form_or_type x (form.Object r))) x
good_typed r (sort.IsType t) h = tt
good_typed (referent.Variable k) x h = h k refl
good_typed r x h = tt

-- What a name means stands for something known, if it is there.
abbrev pub MeansGood : ℕ → Locals → Scope → Option Object → Type 0
MeansGood count ls s (Some (object.Package m)) = m < count → IsGood s.rights (s.referents m) (s.sorts in_full (object.Package m))
MeansGood count ls s (Some (object.Local f n)) = IsDeclared ls n → IsKnownObject s.rights (s.sorts in_full (object.Local f n))
MeansGood count ls s o = Unit {0}

module _ (count : ℕ) (ls : Locals) (r : Standing) (s : Scope) where
  own_name : (o : Option Object) → MayStand count ls r o → MeansGood count ls s o → IsKnownName r s.rights (form_or_type (object_sort s in_full o) (object_form s o)) (object_sort s in_full o)
  own_name None h g = record { fit = alone_fits r sort.Blank refl; family = tt; typed = tt }
  own_name (Some object.Import) h g = record { fit = subst (λ z. is_fit z sort.Package ≡ true) (sym h) refl; family = tt; typed = tt }
  own_name (Some (object.Predeclared b)) h g = record {
    fit = alone_fits r (predeclared_sort s.iota b) (predeclared_fit s.iota b);
    family = predeclared_family s.rights s.iota b;
    typed = outer_typed (predeclared_sort s.iota b) (predeclared_sort s.iota b) (form.Object (referent.Predeclared b)) refl;
  }
  own_name (Some (object.Package m)) h g = record {
    fit = alone_fits r (s.sorts in_full (object.Package m)) (g h).known.fit;
    family = (g h).known.family;
    typed = good_typed (s.referents m) (s.sorts in_full (object.Package m)) (g h).typed;
  }
  own_name (Some (object.Local f n)) h g = record {
    fit = alone_fits r (s.sorts in_full (object.Local f n)) (g h).fit;
    family = (g h).family;
    typed = outer_typed (s.sorts in_full (object.Local f n)) (s.sorts in_full (object.Local f n)) (form.Local n) refl;
  }

  used_known : (h : Hint) (i : ℕ) → s.needed ≡ in_full → MeansGood count ls s (s.objects i) → MayStand count ls r (s.objects i)
      → IsKnownName r s.rights (form_or_type (object_sort s (need_of s.needed h) (s.objects i)) (object_form s (s.objects i))) (object_sort s (need_of s.needed h) (s.objects i))
  used_known h i n g b =
      subst (λ z. IsKnownName r s.rights (form_or_type (object_sort s z (s.objects i)) (object_form s (s.objects i))) (object_sort s z (s.objects i))) (sym (need_full s.needed h n)) (own_name (s.objects i) b g)

  name_known : (h : Hint) (i : ℕ) → s.needed ≡ in_full → MeansGood count ls s (s.objects i) → NameIsPlaced count ls r s h i → NameIsKnown r s h i
  name_known declares i n g b = b
  name_known free i n g b = tt
  name_known h i n g b = used_known h i n g b

  pub node_known : (k : Kind) (h : Hint) (i : ℕ) → s.needed ≡ in_full → MeansGood count ls s (s.objects i) → NodeIsPlaced count ls k r s h i → NodeIsKnown k r s h i
  node_known kind.Name h i n g b = name_known h i n g b
  node_known k h i n g b = tt

-- ---- expressions

module _ (count : ℕ) (ls : Locals) where
  -- what needs in full what it names, and all that it may name is good
  pub record IsScope (s : Scope) : Type 0 where
    pub full : s.needed ≡ in_full
    pub means : (o : Option Object) → MeansGood count ls s o

  pub scope_is : (s : Scope) → s.needed ≡ in_full → ObjectsAreGood count s → LocalsAreGood ls s → IsScope s
  scope_is s f g l = record { full = f; means = by }
    where
      by : (o : Option Object) → MeansGood count ls s o
      by None = tt
      by (Some object.Import) = tt
      by (Some (object.Predeclared b)) = tt
      by (Some (object.Package m)) = λ q. g m q
      by (Some (object.Local f n)) = λ d. l f n d

  part_is : (s : Scope) (k : Kind) (xs : Parts) → IsScope s → IsScope (part_scope s k xs)
  part_is s kind.SequenceType [] a = record { full = refl; means = λ o. same o (a.means o) }
    where
      same : (o : Option Object) → MeansGood count ls s o → MeansGood count ls (part_scope s kind.SequenceType []) o
      same None g = tt
      same (Some object.Import) g = tt
      same (Some (object.Predeclared b)) g = tt
      same (Some (object.Package m)) g = g
      same (Some (object.Local f n)) g = g
  part_is s kind.SequenceType (x ∷ xs) a = a
  part_is s k xs a = a

  mutual
    pub expression_known : (r : Standing) (s : Scope) (h : Hint) (t : Tree) → IsScope s → ExpressionIsPlaced count ls r s h t → ExpressionIsKnown r s h t
    expression_known r s h (node k i j ps) a b = (node_known count ls r s k h i a.full (a.means (s.objects i)) b.0, expressions_known r s k h ps [] ps a b.1)

    expressions_known : (r : Standing) (s : Scope) (k : Kind) (h : Hint) (all : Trees) (xs : Parts) (ps : Trees) → IsScope s → ExpressionsArePlaced count ls r s k h all xs ps → ExpressionsAreKnown r s k h all xs ps
    expressions_known r s k h all xs none a b = tt
    expressions_known r s k h all xs (more p ps) a b =
        let t = part_scope s k xs in
        let g = hint s k h all xs (kind_of p) in
        (expression_known (standing_in r k xs (kind_of p)) t g p (part_is s k xs a) b.0, expressions_known r s k h all (xs ++ Some (typing t g p) ∷ []) ps a b.1)
    expressions_known r s k h all xs (skip ps) a b = expressions_known r s k h all (xs ++ None ∷ []) ps a b
