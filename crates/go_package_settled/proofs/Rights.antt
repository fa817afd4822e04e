-- In the right side of a type a name is looked up where what it means is an object of the package: in an element of a slice or in a function
-- type, in the length of an array, or in none of these.
use Rattle.std.proofs.Common.{◌≡◌, ◌∙◌, ℕ, suc, Bool, true, false, List, Option, Some, refl, sym, ap, subst}
use Rattle.std.specs.Prelude.{if◌then◌else◌}
use Rattle.go_tokens.specs.Tokens.{TokenList}
use Rattle.go_tokens.specs.declared.token.TokenKind.{TokenKind}
use Rattle.go_grammar.specs.declared.kind.Kind.{Kind}
use Rattle.go_grammar.specs.declared.kind.Kind.TheVariants as kind
use Rattle.go_grammar.specs.declared.kind.Category.TheVariants as category
use Rattle.go_grammar.specs.declared.kind.Level.TheVariants as level
use Rattle.go_grammar.specs.declared.kind.Place.TheVariants as place
use Rattle.go_grammar.specs.Trees.{Tree, node, Trees, none, more, skip, kind_of, first, last}
use Rattle.go_grammar.specs.Grammar.{Derives, ends_named, is_name}
use Rattle.go_tree.specs.declared.context.Reach.{Reach}
use Rattle.go_tree.specs.declared.context.Reach.TheVariants as reach
use Rattle.go_tree.specs.declared.context.Role.{Role}
use Rattle.go_tree.specs.declared.context.Role.TheVariants as role
use Rattle.go_tree.specs.declared.context.Scope as context_scope
use Rattle.go_tree.specs.declared.context.Site.{Site}
use Rattle.go_tree.specs.declared.context.Site.TheVariants as site
use Rattle.go_tree.specs.declared.context.Context.{Context}
use Rattle.go_tree.specs.declared.event.Event.{Event}
use Rattle.go_tree.specs.Contexts.{element_site, length_site, if_name, entry_role, parameter_role, enter}
use Rattle.go_tree.specs.Events.{is_more, pass, begin, events, events_of}
use Rattle.go_tree.specs.Meanings.{Meaning}
use Rattle.go_scopes_events.proofs.Public.{IsLaidOut, LieIn, true_false}
use Rattle.go_exprs_rules.specs.Names.{need_of}
use Rattle.go_exprs_rules.specs.Scopes.{Needed, in_full, at_once, loosely, Hint, type_place, loose, loose_inside, declares}
use Rattle.go_exprs_rules.specs.Tables.{in_parentheses, as_type_place}
use Rattle.go_package_laws.specs.Names.{Ways, EachNeed, NeedsIn}
use Rattle.go_package_settled.proofs.Around.{Around, around_own, around_parts, around_first, around_rest}
use Rattle.go_package_settled.proofs.Looking.{LocalsApart, Told, IsMember, length_fixed, member_told, name_told, names_told}
use Rattle.go_package_settled.proofs.Naming.{NotNew}
use Rattle.go_package_settled.proofs.Simple.{AllDerived, expression_is_simple, many_derived}
use Rattle.go_package_settled.proofs.Specified.{AreNames, all_names}

-- ---- hints and parts

abbrev pub reach_of : Hint → Reach
reach_of loose = reach.Indirect
reach_of loose_inside = reach.Indirect
reach_of h = reach.Direct

-- the part in which a type stands that is told this
abbrev pub right : ℕ → Hint → Site
right d h = site.Right d (reach_of h)

-- the part for a need
abbrev pub SiteFor : ℕ → Needed → Site → Type 0
SiteFor d in_full z = z ≡ site.Right d reach.Length
SiteFor d at_once z = z ≡ site.Right d reach.Direct
SiteFor d loosely z = z ≡ site.Right d reach.Indirect

right_for : (d : ℕ) (h : Hint) → SiteFor d (need_of at_once h) (right d h)
right_for d loose = refl
right_for d loose_inside = refl
right_for d h = refl

parentheses_same : (d : ℕ) (h : Hint) → right d h ≡ right d (in_parentheses h)
parentheses_same d loose = refl
parentheses_same d loose_inside = refl
parentheses_same d h = refl

place_same : (d : ℕ) (h : Hint) → right d h ≡ right d (as_type_place h)
place_same d loose = refl
place_same d loose_inside = refl
place_same d h = refl

element_right : (d : ℕ) (h : Hint) → element_site false (right d h) ≡ right d loose
element_right d loose = refl
element_right d loose_inside = refl
element_right d h = refl

length_right : (d : ℕ) (h : Hint) → length_site (right d h) ≡ site.Right d reach.Length
length_right d h = refl

-- ---- lists of names

module _ (w : Ways) where
  names_free : (h : Hint) (all : Trees) (b : Bool) (ns : Trees) → AreNames ns → NeedsIn w kind.NameList h all b ns true false
  names_free h all b none g = tt
  names_free h all b (skip ns) g = absurd g
  names_free h all b (more (node k i j qs) ns) g = (
    subst (λ (y : Kind). EachNeed w declares (node y i j qs)) (sym g.0) (subst (λ zs. EachNeed w declares (node kind.DeclaredName i j zs)) (sym g.1) (tt, tt)),
    names_free h all false ns g.2,
  )

  list_free : (kts : List TokenKind) (t : Tree) → Derives kts category.NameList t → EachNeed w declares t
  list_free kts (node kind.NameList i j ns) g = (tt, names_free declares ns true ns (all_names kts ns i j g.1))
  list_free kts (node k i j ns) g = absurd (true_false false g.0 refl)

-- ---- the walk

-- If it is an object of the package, it is looked up in the part for its need.
abbrev pub told_ways : List Meaning → ℕ → TokenList → List Event → ℕ → Ways
told_ways ms n ts es d = record {
  named = λ way i. Told ms n ts es (SiteFor d way) i;
  counted = λ i. Told ms n ts es (λ z. z ≡ site.Right d reach.Length) i;
  anywhere = λ i. ⊥;
}

module _ (ms : List Meaning) (n : ℕ) (ts : TokenList) (es : List Event) (apart : LocalsApart ms n ts es) (kts : List TokenKind) (d : ℕ) where
  abbrev w : Ways
  w = told_ways ms n ts es d

  -- what a part of a type is told, and where it stands
  record Fits (c : Context) (h : Hint) : Type 0 where
    site : c.site ≡ right d h
    role : NotNew c.role

  -- all of a tree lies in what is told
  record Lies (c : Context) (t : Tree) : Type 0 where
    laid : IsLaidOut t
    around : Around es (events c t) (first t) (last t)

  lies_first : (c : Context) (k : Kind) (i j : ℕ) (all : Trees) (m : ℕ) (p : Tree) (qs : Trees) (lo : ℕ) → LieIn lo j (more p qs) → Around es (events_of c k i j all m (more p qs)) lo j
      → Lies (enter c k i j all (ends_named all) m p (is_more qs)) p
  lies_first c k i j all m p qs lo l a = record { laid = l.1; around = around_first es c k i j all m p qs lo l a }

  name_need : (c : Context) (h : Hint) (i j : ℕ) → Fits c h → Lies c (node kind.Name i j none) → EachNeed w h (node kind.Name i j none)
  name_need c h i j f l = (
    name_told ms n ts es apart (SiteFor d (need_of at_once h)) c i c.role f.role (subst (SiteFor d (need_of at_once h)) (sym f.site) (right_for d h)) (around_own es c kind.Name i j none l.laid l.around),
    tt,
  )

  member_need : (c : Context) (i j : ℕ) → IsMember c.role → Lies c (node kind.Name i j none) → EachNeed w declares (node kind.Name i j none)
  member_need c i j h l = (member_told ms n ts es apart (SiteFor d at_once) c i c.role h (around_own es c kind.Name i j none l.laid l.around), tt)

  -- an entry of parameters, which is told by whether they have names
  abbrev entry_hint : Bool → Hint → Kind → Hint
  entry_hint b h k = if b then (if is_name k then declares else h) else as_type_place h

  named_operand : (p : Tree) (x : Role) → is_name (kind_of p) ≡ false → if_name p x ≡ role.Operand
  named_operand p x e = ap (λ b. if b then x else role.Operand) e

  entry_typed : (b : Bool) (c : Context) (h : Hint) (p : Tree) (g : ℕ) (sc : Option context_scope.Scope) → is_name (kind_of p) ≡ false → c.role ≡ entry_role b p g sc → c.site ≡ right d h
      → ((x : Hint) → Fits c x → EachNeed w x p) → EachNeed w (entry_hint b h (kind_of p)) p
  entry_typed true c h p g sc e r s f =
      subst (λ x. EachNeed w (if x then declares else h) p) (sym e) (f h (record { site = s; role = subst NotNew (sym (r ∙ named_operand p (role.Parameter g sc) e)) tt }))
  entry_typed false c h p g sc e r s f = f (as_type_place h) (record { site = s ∙ place_same d h; role = subst NotNew (sym r) tt })

  entry_named : (b : Bool) (c : Context) (h : Hint) (i j : ℕ) (g : ℕ) (sc : Option context_scope.Scope) → c.role ≡ entry_role b (node kind.Name i j none) g sc → c.site ≡ right d h → Lies c (node kind.Name i j none)
      → EachNeed w (entry_hint b h kind.Name) (node kind.Name i j none)
  entry_named true c h i j g sc r s l = member_need c i j (subst IsMember (sym r) tt) l
  entry_named false c h i j g sc r s l = name_need c (as_type_place h) i j (record { site = s ∙ place_same d h; role = subst NotNew (sym r) tt }) l

  entry_group : (b : Bool) (c : Context) (h : Hint) (p : Tree) → is_name (kind_of p) ≡ false → c.site ≡ right d h → ((x : Hint) → c.site ≡ right d x → EachNeed w x p) → EachNeed w (entry_hint b h (kind_of p)) p
  entry_group true c h p e s f = subst (λ x. EachNeed w (if x then declares else h) p) (sym e) (f h s)
  entry_group false c h p e s f = f (as_type_place h) (s ∙ place_same d h)

  -- by what it is
  entry_by : (b : Bool) (c : Context) (h : Hint) (p : Tree) (g : ℕ) (sc : Option context_scope.Scope) → Derives kts category.Entry p → c.role ≡ entry_role b p g sc → c.site ≡ right d h → Lies c p
      → (Derives kts category.Type p → (x : Hint) → Fits c x → EachNeed w x p) → (kind_of p ≡ kind.Parameter → (x : Hint) → c.site ≡ right d x → EachNeed w x p)
      → EachNeed w (entry_hint b h (kind_of p)) p
  entry_by b c h (node kind.Name i j none) g sc q r s l f e = entry_named b c h i j g sc r s l
  entry_by b c h (node kind.Name i j (more t us)) g sc q r s l f e = absurd q.1
  entry_by b c h (node kind.Name i j (skip us)) g sc q r s l f e = absurd q.1
  entry_by b c h (node kind.Parameter i j us) g sc q r s l f e = entry_group b c h (node kind.Parameter i j us) refl s (e refl)
  entry_by b c h (node kind.ParenthesizedType i j us) g sc q r s l f e = entry_typed b c h (node kind.ParenthesizedType i j us) g sc refl r s (f (refl, q.1, refl, refl))
  entry_by b c h (node kind.SequenceType i j us) g sc q r s l f e = entry_typed b c h (node kind.SequenceType i j us) g sc refl r s (f (refl, q.1, refl, refl))
  entry_by b c h (node kind.FunctionType i j us) g sc q r s l f e = entry_typed b c h (node kind.FunctionType i j us) g sc refl r s (f (refl, q.1, refl, refl))
  entry_by b c h (node kind.StructType i j us) g sc q r s l f e = entry_typed b c h (node kind.StructType i j us) g sc refl r s (f (refl, q.1, refl, refl))
  entry_by b c h (node k i j us) g sc q r s l f e = absurd (true_false false q.0 refl)

  result_by : (h : Hint) (p : Tree) → Derives kts category.Result p → (Derives kts category.Type p → EachNeed w h p) → (Derives kts category.Result p → kind_of p ≡ kind.Results → EachNeed w h p) → EachNeed w h p
  result_by h (node kind.Name i j us) q f e = f (refl, q.1, refl, refl)
  result_by h (node kind.SequenceType i j us) q f e = f (refl, q.1, refl, refl)
  result_by h (node kind.FunctionType i j us) q f e = f (refl, q.1, refl, refl)
  result_by h (node kind.StructType i j us) q f e = f (refl, q.1, refl, refl)
  result_by h (node kind.Results i j us) q f e = e q refl
  result_by h (node k i j us) q f e = absurd (true_false false q.0 refl)

  grouped_member : (c : Context) (g : ℕ) → c.group ≡ Some g → IsMember (parameter_role c.group c.parameters)
  grouped_member c g e = subst (λ o. IsMember (parameter_role o c.parameters)) (sym e) tt

  mutual
    type_needs : (c : Context) (h : Hint) (t : Tree) → Derives kts category.Type t → Fits c h → Lies c t → EachNeed w h t
    type_needs c h (node kind.Name i j none) q f l = name_need c h i j f l
    type_needs c h (node kind.Name i j (more u us)) q f l = absurd q.1
    type_needs c h (node kind.Name i j (skip us)) q f l = absurd q.1
    type_needs c h (node kind.ParenthesizedType i j none) q f l = absurd q.1
    type_needs c h (node kind.ParenthesizedType i j (skip us)) q f l = absurd q.1
    type_needs c h (node kind.ParenthesizedType i j (more t (more u us))) q f l = absurd q.1.2
    type_needs c h (node kind.ParenthesizedType i j (more t (skip us))) q f l = absurd q.1.2
    type_needs c h (node kind.ParenthesizedType i j (more t none)) q f l =
        let k : Kind = kind.ParenthesizedType in
        let all : Trees = more t none in (
          tt,
          (
            type_needs (enter (begin c k) k i j all (ends_named all) 0 t false) (in_parentheses h) t q.1.1 (record { site = f.site ∙ parentheses_same d h; role = tt })
                (lies_first (begin c k) k i j all 0 t none i l.laid.1 (around_parts es c k i j all l.around)),
            tt,
          ),
        )
    type_needs c h (node kind.SequenceType i j none) q f l = absurd q.1
    type_needs c h (node kind.SequenceType i j (skip none)) q f l = absurd q.1.2
    type_needs c h (node kind.SequenceType i j (skip (skip us))) q f l = absurd q.1.2
    type_needs c h (node kind.SequenceType i j (skip (more t (more u us)))) q f l = absurd q.1.2.2
    type_needs c h (node kind.SequenceType i j (skip (more t (skip us)))) q f l = absurd q.1.2.2
    type_needs c h (node kind.SequenceType i j (skip (more t none))) q f l =
        let k : Kind = kind.SequenceType in
        let all : Trees = skip (more t none) in (
          tt,
          (
            type_needs (enter (begin c k) k i j all (ends_named all) 1 t false) loose t q.1.2.1 (record { site = ap (element_site false) f.site ∙ element_right d h; role = tt })
                (lies_first (begin c k) k i j all 1 t none i l.laid.1 (around_parts es c k i j all l.around)),
            tt,
          ),
        )
    type_needs c h (node kind.SequenceType i j (more u none)) q f l = absurd q.1.2
    type_needs c h (node kind.SequenceType i j (more u (skip us))) q f l = absurd q.1.2
    type_needs c h (node kind.SequenceType i j (more u (more t (more v us)))) q f l = absurd q.1.2.2
    type_needs c h (node kind.SequenceType i j (more u (more t (skip us)))) q f l = absurd q.1.2.2
    type_needs c h (node kind.SequenceType i j (more u (more t none))) q f l =
        let k : Kind = kind.SequenceType in
        let all : Trees = more u (more t none) in
        let a = around_parts es c k i j all l.around in (
          tt,
          (
            names_told ms n ts es apart (site.Right d reach.Length) (length_fixed d) (enter (begin c k) k i j all (ends_named all) 0 u true) u (ap length_site f.site ∙ length_right d h) tt
                (expression_is_simple kts level.Either place.Free u q.1.1) l.laid.1.1 (around_first es (begin c k) k i j all 0 u (more t none) i l.laid.1 a),
            (
              type_needs (enter (pass (begin c k) u) k i j all (ends_named all) 1 t false) (as_type_place h) t q.1.2.1 (record { site = f.site ∙ place_same d h; role = tt })
                  (lies_first (pass (begin c k) u) k i j all 1 t none (last u) l.laid.1.2 (around_rest es (begin c k) k i j all 0 u (more t none) i l.laid.1 a)),
              tt,
            ),
          ),
        )
    type_needs c h (node kind.FunctionType i j none) q f l = absurd q.1
    type_needs c h (node kind.FunctionType i j (skip us)) q f l = absurd q.1
    type_needs c h (node kind.FunctionType i j (more s (more u us))) q f l = absurd q.1.2
    type_needs c h (node kind.FunctionType i j (more s (skip us))) q f l = absurd q.1.2
    type_needs c h (node kind.FunctionType i j (more s none)) q f l =
        let k : Kind = kind.FunctionType in
        let all : Trees = more s none in (
          tt,
          (
            signature_needs (enter (begin c k) k i j all (ends_named all) 0 s false) loose s q.1.1 (ap (element_site false) f.site ∙ element_right d h)
                (lies_first (begin c k) k i j all 0 s none i l.laid.1 (around_parts es c k i j all l.around)),
            tt,
          ),
        )
    type_needs c h (node kind.StructType i j us) q f l =
        let k : Kind = kind.StructType in
        (tt, fields_need (begin c k) h i j us 0 us i true (many_derived kts _ _ us i j q.1) f.site l.laid.1 (around_parts es c k i j us l.around))
    type_needs c h (node k i j us) q f l = absurd (true_false false q.0 refl)

    signature_needs : (c : Context) (h : Hint) (t : Tree) → Derives kts category.Signature t → c.site ≡ right d h → Lies c t → EachNeed w h t
    signature_needs c h (node kind.Signature i j none) q f l = absurd q.1
    signature_needs c h (node kind.Signature i j (skip us)) q f l = absurd q.1
    signature_needs c h (node kind.Signature i j (more ps none)) q f l = absurd q.1.2
    signature_needs c h (node kind.Signature i j (more ps (skip (more u us)))) q f l = absurd q.1.2.3
    signature_needs c h (node kind.Signature i j (more ps (skip (skip us)))) q f l = absurd q.1.2.3
    signature_needs c h (node kind.Signature i j (more ps (more r (more u us)))) q f l = absurd q.1.2.2
    signature_needs c h (node kind.Signature i j (more ps (more r (skip us)))) q f l = absurd q.1.2.2
    signature_needs c h (node kind.Signature i j (more ps (skip none))) q f l =
        let k : Kind = kind.Signature in
        let all : Trees = more ps (skip none) in (
          tt,
          (
            parameters_need (enter (begin c k) k i j all (ends_named all) 0 ps false) (as_type_place h) ps q.1.1 (f ∙ place_same d h)
                (lies_first (begin c k) k i j all 0 ps (skip none) i l.laid.1 (around_parts es c k i j all l.around)),
            tt,
          ),
        )
    signature_needs c h (node kind.Signature i j (more ps (more r none))) q f l =
        let k : Kind = kind.Signature in
        let all : Trees = more ps (more r none) in
        let a = around_parts es c k i j all l.around in
        let inner : Context = enter (pass (begin c k) ps) k i j all (ends_named all) 1 r false in
        let there : Lies inner r = lies_first (pass (begin c k) ps) k i j all 1 r none (last ps) l.laid.1.2 (around_rest es (begin c k) k i j all 0 ps (more r none) i l.laid.1 a) in (
          tt,
          (
            parameters_need (enter (begin c k) k i j all (ends_named all) 0 ps true) (as_type_place h) ps q.1.1 (f ∙ place_same d h) (lies_first (begin c k) k i j all 0 ps (more r none) i l.laid.1 a),
            (
              result_by (as_type_place h) r q.1.2.1 (λ g. type_needs inner (as_type_place h) r g (record { site = f ∙ place_same d h; role = tt }) there)
                  (λ g e. results_need inner (as_type_place h) r g e (f ∙ place_same d h) there),
              tt,
            ),
          ),
        )
    signature_needs c h (node k i j us) q f l = absurd (true_false false q.0 refl)

    parameters_need : (c : Context) (h : Hint) (t : Tree) → Derives kts category.Parameters t → c.site ≡ right d h → Lies c t → EachNeed w h t
    parameters_need c h (node kind.Parameters i j us) q f l =
        let k : Kind = kind.Parameters in
        (tt, entries_need (begin c k) h i j us 0 us i true (many_derived kts _ _ us i j q.1) f l.laid.1 (around_parts es c k i j us l.around))
    parameters_need c h (node k i j us) q f l = absurd (true_false false q.0 refl)

    entries_need : (c : Context) (h : Hint) (i j : ℕ) (all : Trees) (m : ℕ) (qs : Trees) (lo : ℕ) (b : Bool) → AllDerived kts category.Entry qs → c.site ≡ right d h → LieIn lo j qs
        → Around es (events_of c kind.Parameters i j all m qs) lo j → NeedsIn w kind.Parameters h all b qs true false
    entries_need c h i j all m none lo b q f l a = tt
    entries_need c h i j all m (skip qs) lo b q f l a = absurd q
    entries_need c h i j all m (more p qs) lo b q f l a =
        let k : Kind = kind.Parameters in
        let inner : Context = enter c k i j all (ends_named all) m p (is_more qs) in
        let there : Lies inner p = lies_first c k i j all m p qs lo l a in (
          entry_by (ends_named all) inner h p i c.parameters q.0 refl f there (λ g x e. type_needs inner x p g e there) (λ e x s. parameter_needs inner x p i q.0 e refl s there),
          entries_need (pass c p) h i j all (suc m) qs (last p) false q.1 f l.2 (around_rest es c k i j all m p qs lo l a),
        )

    parameter_needs : (c : Context) (h : Hint) (t : Tree) (g : ℕ) → Derives kts category.Entry t → kind_of t ≡ kind.Parameter → c.group ≡ Some g → c.site ≡ right d h → Lies c t → EachNeed w h t
    parameter_needs c h (node kind.Parameter i j none) g q e r f l = absurd q.1
    parameter_needs c h (node kind.Parameter i j (skip us)) g q e r f l = absurd q.1
    parameter_needs c h (node kind.Parameter i j (more u none)) g q e r f l = absurd q.1.2
    parameter_needs c h (node kind.Parameter i j (more u (skip us))) g q e r f l = absurd q.1.2
    parameter_needs c h (node kind.Parameter i j (more u (more t (more v us)))) g q e r f l = absurd q.1.2.2
    parameter_needs c h (node kind.Parameter i j (more u (more t (skip us)))) g q e r f l = absurd q.1.2.2
    parameter_needs c h (node kind.Parameter i j (more u (more t none))) g q e r f l =
        let k : Kind = kind.Parameter in
        let all : Trees = more u (more t none) in
        let a = around_parts es c k i j all l.around in (
          tt,
          (
            parameter_name (enter (begin c k) k i j all (ends_named all) 0 u true) u q.1.1 (grouped_member c g r) (lies_first (begin c k) k i j all 0 u (more t none) i l.laid.1 a),
            (
              type_needs (enter (pass (begin c k) u) k i j all (ends_named all) 1 t false) (as_type_place h) t q.1.2.1 (record { site = f ∙ place_same d h; role = tt })
                  (lies_first (pass (begin c k) u) k i j all 1 t none (last u) l.laid.1.2 (around_rest es (begin c k) k i j all 0 u (more t none) i l.laid.1 a)),
              tt,
            ),
          ),
        )
    parameter_needs c h (node k i j us) g q e r f l = absurd cc

    parameter_name : (c : Context) (t : Tree) → Derives kts category.Name t → IsMember c.role → Lies c t → EachNeed w declares t
    parameter_name c (node kind.Name i j none) q h l = member_need c i j h l
    parameter_name c (node kind.Name i j (more u us)) q h l = absurd q.1
    parameter_name c (node kind.Name i j (skip us)) q h l = absurd q.1
    parameter_name c (node k i j us) q h l = absurd (true_false false q.0 refl)

    results_need : (c : Context) (h : Hint) (t : Tree) → Derives kts category.Result t → kind_of t ≡ kind.Results → c.site ≡ right d h → Lies c t → EachNeed w h t
    results_need c h (node kind.Results i j us) q e f l =
        let k : Kind = kind.Results in
        (tt, types_need (begin c k) h i j us 0 us i true (many_derived kts _ _ us i j q.1) f l.laid.1 (around_parts es c k i j us l.around))
    results_need c h (node k i j us) q e f l = absurd cc

    types_need : (c : Context) (h : Hint) (i j : ℕ) (all : Trees) (m : ℕ) (qs : Trees) (lo : ℕ) (b : Bool) → AllDerived kts category.Type qs → c.site ≡ right d h → LieIn lo j qs
        → Around es (events_of c kind.Results i j all m qs) lo j → NeedsIn w kind.Results h all b qs true false
    types_need c h i j all m none lo b q f l a = tt
    types_need c h i j all m (skip qs) lo b q f l a = absurd q
    types_need c h i j all m (more p qs) lo b q f l a =
        let k : Kind = kind.Results in
        let inner : Context = enter c k i j all (ends_named all) m p (is_more qs) in (
          type_needs inner (as_type_place h) p q.0 (record { site = f ∙ place_same d h; role = tt }) (lies_first c k i j all m p qs lo l a),
          types_need (pass c p) h i j all (suc m) qs (last p) false q.1 f l.2 (around_rest es c k i j all m p qs lo l a),
        )

    fields_need : (c : Context) (h : Hint) (i j : ℕ) (all : Trees) (m : ℕ) (qs : Trees) (lo : ℕ) (b : Bool) → AllDerived kts category.Fields qs → c.site ≡ right d h → LieIn lo j qs
        → Around es (events_of c kind.StructType i j all m qs) lo j → NeedsIn w kind.StructType h all b qs true false
    fields_need c h i j all m none lo b q f l a = tt
    fields_need c h i j all m (skip qs) lo b q f l a = absurd q
    fields_need c h i j all m (more p qs) lo b q f l a =
        let k : Kind = kind.StructType in
        let inner : Context = enter c k i j all (ends_named all) m p (is_more qs) in (
          field_needs inner (as_type_place h) p q.0 (f ∙ place_same d h) (lies_first c k i j all m p qs lo l a),
          fields_need (pass c p) h i j all (suc m) qs (last p) false q.1 f l.2 (around_rest es c k i j all m p qs lo l a),
        )

    field_needs : (c : Context) (h : Hint) (t : Tree) → Derives kts category.Fields t → c.site ≡ right d h → Lies c t → EachNeed w h t
    field_needs c h (node kind.Fields i j none) q f l = absurd q.1
    field_needs c h (node kind.Fields i j (skip us)) q f l = absurd q.1
    field_needs c h (node kind.Fields i j (more u none)) q f l = absurd q.1.2
    field_needs c h (node kind.Fields i j (more u (skip us))) q f l = absurd q.1.2
    field_needs c h (node kind.Fields i j (more u (more t (more v us)))) q f l = absurd q.1.2.2
    field_needs c h (node kind.Fields i j (more u (more t (skip us)))) q f l = absurd q.1.2.2
    field_needs c h (node kind.Fields i j (more u (more t none))) q f l =
        let k : Kind = kind.Fields in
        let all : Trees = more u (more t none) in
        let a = around_parts es c k i j all l.around in (
          tt,
          (
            list_free w kts u q.1.1,
            (
              type_needs (enter (pass (begin c k) u) k i j all (ends_named all) 1 t false) (as_type_place h) t q.1.2.1 (record { site = f ∙ place_same d h; role = tt })
                  (lies_first (pass (begin c k) u) k i j all 1 t none (last u) l.laid.1.2 (around_rest es (begin c k) k i j all 0 u (more t none) i l.laid.1 a)),
              tt,
            ),
          ),
        )
    field_needs c h (node k i j us) q f l = absurd (true_false false q.0 refl)

  -- the right side of a type
  pub right_told : (c : Context) (t : Tree) → Derives kts category.Type t → c.site ≡ site.Right d reach.Direct → NotNew c.role → IsLaidOut t → Around es (events c t) (first t) (last t) → EachNeed w type_place t
  right_told c t q s r l a = type_needs c type_place t q (record { site = s; role = r }) (record { laid = l; around = a })
