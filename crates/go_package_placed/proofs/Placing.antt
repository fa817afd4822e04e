-- The names of an expression or a type outside of bodies stand as they may, by what the files of its package tell of their tokens.
use Rattle.std.proofs.Common.{◌≡◌, ◌∙◌, ℕ, suc, ◌<◌, ◌≤◌, Bool, true, false, List, [], ◌∷◌, ◌++◌, Option, Some, None, refl, sym, ap, subst, arith}
use Rattle.std.specs.Prelude.{if◌then◌else◌}
use Rattle.std.proofs.lemmas.Bool.{eq-eqb}
use Rattle.go_tokens.specs.Tokens.{TokenList}
use Rattle.go_grammar.specs.declared.kind.Kind.{Kind}
use Rattle.go_grammar.specs.declared.kind.Kind.TheVariants as kind
use Rattle.go_grammar.specs.Grammar.{ends_named}
use Rattle.go_grammar.specs.Trees.{Tree, node, Trees, none, more, skip, kind_of, first, last}
use Rattle.go_tree.specs.declared.context.Context.{Context}
use Rattle.go_tree.specs.declared.context.Role.{Role}
use Rattle.go_tree.specs.declared.context.Role.TheVariants as role
use Rattle.go_tree.specs.declared.event.Declaration.{Declaration}
use Rattle.go_tree.specs.declared.event.Event.{Event}
use Rattle.go_tree.specs.declared.event.Event.TheVariants as event
use Rattle.go_tree.specs.declared.event.Use.{Use}
use Rattle.go_tree.specs.declared.object.Object.{Object}
use Rattle.go_tree.specs.declared.object.Object.TheVariants as object
use Rattle.go_tree.specs.Contexts.{enter}
use Rattle.go_tree.specs.Events.{statement_events, own_events, name_events, is_more, pass, begin, events, events_of}
use Rattle.go_tree.specs.Meanings.{Meaning}
use Rattle.go_tree.specs.Objects.{own_object, object_at}
use Rattle.go_tree.specs.Units.{word}
use Rattle.go_scopes_events.specs.Orders.{EachDeclared}
use Rattle.go_scopes_events.specs.Sited.{EachUsed}
use Rattle.go_scopes_events.proofs.Public.{IsLaidOut, LieIn, behind_name, laid_grows, lie_order}
use Rattle.go_exprs_rules.specs.Names.{declared_form}
use Rattle.go_exprs_rules.specs.Scopes.{Scope, Hint, declares, free}
use Rattle.go_exprs_rules.specs.Tables.{Parts, hint, part_scope}
use Rattle.go_exprs_rules.specs.Typing.{typing}
use Rattle.go_stmts_final_types.specs.Known.{is_object}
use Rattle.go_stmts_final_types.specs.Names.{Standing, selected, standing_in}
use Rattle.go_stmts_final_types.specs.Placed.{MayStand, NameIsPlaced, NodeIsPlaced, ExpressionIsPlaced, ExpressionsArePlaced}
use Rattle.go_package_placed.proofs.Found.{NoObject, IsOwn}
use Rattle.go_package_placed.proofs.Hints.{Fits, Reads, IsMember, IsPlace, next_place, part_fits, Agrees, AgreesAt, part_agrees}
use Rattle.go_package_placed.proofs.Imports.{IsSelected, IsChosen}
use Rattle.go_package_placed.proofs.Telling.{Says, is_quiet, simple_quiet, says_own, says_parts, says_first, says_rest}
use Rattle.go_package_placed.proofs.Tidy.{is_simple, IsTidy, AreTidy}

-- ---- what holds of parts of what is told

used_front : (Q : Use → Type 0) (es fs : List Event) → EachUsed Q (es ++ fs) → EachUsed Q es
used_front Q [] fs h = tt
used_front Q (event.Use u ∷ es) fs h = (h.0, used_front Q es fs h.1)
used_front Q (event.Declaration d ∷ es) fs h = used_front Q es fs h
used_front Q (event.Import p ∷ es) fs h = used_front Q es fs h
used_front Q (event.Member m g i ∷ es) fs h = used_front Q es fs h
used_front Q (event.Bodiless i j ∷ es) fs h = used_front Q es fs h
used_front Q (event.Statement i j ∷ es) fs h = used_front Q es fs h
used_front Q (event.Misplaced i j ∷ es) fs h = used_front Q es fs h
used_front Q (event.SecondDefault i ∷ es) fs h = used_front Q es fs h

used_behind : (Q : Use → Type 0) (es fs : List Event) → EachUsed Q (es ++ fs) → EachUsed Q fs
used_behind Q [] fs h = h
used_behind Q (event.Use u ∷ es) fs h = used_behind Q es fs h.1
used_behind Q (event.Declaration d ∷ es) fs h = used_behind Q es fs h
used_behind Q (event.Import p ∷ es) fs h = used_behind Q es fs h
used_behind Q (event.Member m g i ∷ es) fs h = used_behind Q es fs h
used_behind Q (event.Bodiless i j ∷ es) fs h = used_behind Q es fs h
used_behind Q (event.Statement i j ∷ es) fs h = used_behind Q es fs h
used_behind Q (event.Misplaced i j ∷ es) fs h = used_behind Q es fs h
used_behind Q (event.SecondDefault i ∷ es) fs h = used_behind Q es fs h

declared_front : (Q : Declaration → Type 0) (es fs : List Event) → EachDeclared Q (es ++ fs) → EachDeclared Q es
declared_front Q [] fs h = tt
declared_front Q (event.Declaration d ∷ es) fs h = (h.0, declared_front Q es fs h.1)
declared_front Q (event.Use u ∷ es) fs h = declared_front Q es fs h
declared_front Q (event.Import p ∷ es) fs h = declared_front Q es fs h
declared_front Q (event.Member m g i ∷ es) fs h = declared_front Q es fs h
declared_front Q (event.Bodiless i j ∷ es) fs h = declared_front Q es fs h
declared_front Q (event.Statement i j ∷ es) fs h = declared_front Q es fs h
declared_front Q (event.Misplaced i j ∷ es) fs h = declared_front Q es fs h
declared_front Q (event.SecondDefault i ∷ es) fs h = declared_front Q es fs h

declared_behind : (Q : Declaration → Type 0) (es fs : List Event) → EachDeclared Q (es ++ fs) → EachDeclared Q fs
declared_behind Q [] fs h = h
declared_behind Q (event.Declaration d ∷ es) fs h = declared_behind Q es fs h.1
declared_behind Q (event.Use u ∷ es) fs h = declared_behind Q es fs h
declared_behind Q (event.Import p ∷ es) fs h = declared_behind Q es fs h
declared_behind Q (event.Member m g i ∷ es) fs h = declared_behind Q es fs h
declared_behind Q (event.Bodiless i j ∷ es) fs h = declared_behind Q es fs h
declared_behind Q (event.Statement i j ∷ es) fs h = declared_behind Q es fs h
declared_behind Q (event.Misplaced i j ∷ es) fs h = declared_behind Q es fs h
declared_behind Q (event.SecondDefault i ∷ es) fs h = declared_behind Q es fs h

no_object : {P : Type 0} (x : Object) → ◌≡◌ {A = Option Object} None (Some x) → P
no_object x e = cc

own_form : (s : Scope) (o : Option Object) → NoObject o → is_object (declared_form s o) ≡ false
own_form s None h = refl
own_form s (Some object.Import) h = absurd h
own_form s (Some (object.Predeclared p)) h = absurd h
own_form s (Some (object.Package m)) h = absurd h
own_form s (Some (object.Local f k)) h = refl

none_object : (o : Option Object) → ((x : Object) → o ≡ Some x → ⊥) → NoObject o
none_object None f = tt
none_object (Some x) f = absurd (f x refl)

module _ (ms : List Meaning) (n : ℕ) (ts : TokenList) (o : ℕ → Option Object) (p : ℕ → Bool) (count : ℕ) where
  -- What the tokens of the file n mean: a token that isn't looked up in a body means no local, and an object of the package is one of so many.
  pub record Means : Type 0 where
    pub shared : (i m : ℕ) → o i ≡ Some (object.Package m) → m < count
    pub apart : (t f j : ℕ) (w : List ℕ) → object_at ms n t w ≡ Some (object.Local f j) → p t ≡ true

  -- what is told, of tokens from lo up to hi, outside of bodies
  pub record AreTold (es : List Event) (lo hi : ℕ) : Type 0 where
    pub says : Says ms n ts o es lo hi
    pub chosen : EachUsed (IsChosen ms n ts) es
    pub own : EachDeclared (IsOwn n ts ms) es
    pub clear : (i : ℕ) → lo ≤ i → i < hi → p i ≡ false

  -- ---- nodes and their parts

  own_told : (c : Context) (k : Kind) (i j : ℕ) (ps : Trees) → i < j → LieIn (behind_name k i) j ps → behind_name k i ≤ j → AreTold (events c (node k i j ps)) i j → AreTold (own_events c k i j ps) i (behind_name k i)
  own_told c k i j ps lt l le t =
      let st : List Event = statement_events c.listed i j in
      let own : List Event = own_events c k i j ps in
      let rest : List Event = events_of (begin c k) k i j ps 0 ps in
      record {
        says = says_own ms n ts o c k i j ps l t.says;
        chosen = used_behind (IsChosen ms n ts) st own (used_front (IsChosen ms n ts) (st ++ own) rest t.chosen);
        own = declared_behind (IsOwn n ts ms) st own (declared_front (IsOwn n ts ms) (st ++ own) rest t.own);
        clear = λ x from upto. t.clear x from (omega (arith, upto, le));
      }

  pub parts_told : (c : Context) (k : Kind) (i j : ℕ) (ps : Trees) → is_quiet k ≡ true → i ≤ behind_name k i → AreTold (events c (node k i j ps)) i j → AreTold (events_of (begin c k) k i j ps 0 ps) (behind_name k i) j
  parts_told c k i j ps q le t =
      let front : List Event = statement_events c.listed i j ++ own_events c k i j ps in
      let rest : List Event = events_of (begin c k) k i j ps 0 ps in
      record {
        says = says_parts ms n ts o c k i j ps q t.says;
        chosen = used_behind (IsChosen ms n ts) front rest t.chosen;
        own = declared_behind (IsOwn n ts ms) front rest t.own;
        clear = λ x from upto. t.clear x (omega (arith, from, le)) upto;
      }

  pub first_told : (c : Context) (k : Kind) (i j : ℕ) (all : Trees) (m : ℕ) (q : Tree) (qs : Trees) (lo : ℕ) → LieIn lo j (more q qs) → AreTold (events_of c k i j all m (more q qs)) lo j
      → AreTold (events (enter c k i j all (ends_named all) m q (is_more qs)) q) (first q) (last q)
  first_told c k i j all m q qs lo l t =
      let own : List Event = events (enter c k i j all (ends_named all) m q (is_more qs)) q in
      let rest : List Event = events_of (pass c q) k i j all (suc m) qs in
      record {
        says = says_first ms n ts o c k i j all m q qs lo l t.says;
        chosen = used_front (IsChosen ms n ts) own rest t.chosen;
        own = declared_front (IsOwn n ts ms) own rest t.own;
        clear = λ x from upto. t.clear x (let a = l.0 in omega (arith, a, from)) (let b = lie_order (last q) j qs l.2 in omega (arith, b, upto));
      }

  pub rest_told : (c : Context) (k : Kind) (i j : ℕ) (all : Trees) (m : ℕ) (q : Tree) (qs : Trees) (lo : ℕ) → LieIn lo j (more q qs) → AreTold (events_of c k i j all m (more q qs)) lo j
      → AreTold (events_of (pass c q) k i j all (suc m) qs) (last q) j
  rest_told c k i j all m q qs lo l t =
      let own : List Event = events (enter c k i j all (ends_named all) m q (is_more qs)) q in
      let rest : List Event = events_of (pass c q) k i j all (suc m) qs in
      record {
        says = says_rest ms n ts o c k i j all m q qs lo l t.says;
        chosen = used_behind (IsChosen ms n ts) own rest t.chosen;
        own = declared_behind (IsOwn n ts ms) own rest t.own;
        clear = λ x from upto. t.clear x (let a = l.0 in let g = laid_grows q l.1 in omega (arith, a, g, from)) upto;
      }

  module _ (means : Means) where
    -- ---- one name

    -- a parameter, a field or a key
    member_own : (c : Context) (i : ℕ) (r : Role) → IsMember r → AreTold (name_events c i r) i (suc i) → NoObject (o i)
    member_own c i (role.Field g) h t = none_object (o i) (λ x e. no_object x (t.says i x (omega arith) (omega arith) e))
    member_own c i (role.Key g) h t = none_object (o i) (λ x e. no_object x (t.says i x (omega arith) (omega arith) e))
    member_own c i (role.Parameter g None) h t = none_object (o i) (λ x e. no_object x (t.says i x (omega arith) (omega arith) e))
    member_own c i (role.Parameter g (Some s)) h t = by (o i) refl
      where
        by : (y : Option Object) → o i ≡ y → NoObject y
        by None e = tt
        by (Some x) e =
            let own : own_object n i (word ts i) ms ms ≡ Some x = sym (ap (λ b. if b then own_object n i (word ts i) ms ms else None) (eq-eqb i i refl)) ∙ t.says i x (omega arith) (omega arith) e in
            subst NoObject own (t.own.0 refl refl)
    member_own c i r h t = absurd h

    -- a name that is looked up
    used_stands : (r : Standing) (i : ℕ) (u : Use) → u.name ≡ i → Agrees r u.role → AreTold (event.Use u ∷ []) i (suc i) → MayStand count [] r (o i)
    used_stands r i u q a t = by (o i) refl
      where
        selects : (x : Role) → Agrees r x → IsSelected x → r ≡ selected
        selects (role.Selected j true) b h = b
        selects (role.Selected j false) b h = absurd h
        selects x b h = absurd h

        looked : (x : Object) → o i ≡ Some x → object_at ms n u.name (word ts u.name) ≡ Some x
        looked x e =
            ap (λ y. object_at ms n y (word ts y)) q ∙ sym (ap (λ b. if b then object_at ms n i (word ts i) else None) (eq-eqb u.name i q)) ∙ t.says i x (omega arith) (omega arith) e

        by : (y : Option Object) → o i ≡ y → MayStand count [] r y
        by None e = tt
        by (Some object.Import) e = selects u.role a (t.chosen.0 (looked object.Import e))
        by (Some (object.Predeclared b)) e = tt
        by (Some (object.Package m)) e = means.shared i m e
        by (Some (object.Local f j)) e =
            let in_body : p u.name ≡ true = means.apart u.name f j (word ts u.name) (looked (object.Local f j) e) in
            absurd (let z : true ≡ false = sym in_body ∙ ap p q ∙ t.clear i (omega arith) (omega arith) in cc)

    member_stands : (r : Standing) (y : Option Object) → NoObject y → ((f j : ℕ) → y ≡ Some (object.Local f j) → ⊥) → MayStand count [] r y
    member_stands r None h g = tt
    member_stands r (Some object.Import) h g = absurd h
    member_stands r (Some (object.Predeclared b)) h g = tt
    member_stands r (Some (object.Package m)) h g = absurd h
    member_stands r (Some (object.Local f j)) h g = absurd (g f j refl)

    name_stands : (r : Standing) (c : Context) (i : ℕ) (x : Role) → Reads x → Agrees r x → AreTold (name_events (record c { role = x }) i x) i (suc i) → MayStand count [] r (o i)
    name_stands r c i (role.New d) f a t = absurd f
    name_stands r c i (role.Parameter g s) f a t = absurd f
    name_stands r c i (role.Field g) f a t =
        member_stands r (o i) (member_own (record c { role = role.Field g }) i (role.Field g) tt t) (λ m j e. no_object (object.Local m j) (t.says i (object.Local m j) (omega arith) (omega arith) e))
    name_stands r c i (role.Key g) f a t =
        member_stands r (o i) (member_own (record c { role = role.Key g }) i (role.Key g) tt t) (λ m j e. no_object (object.Local m j) (t.says i (object.Local m j) (omega arith) (omega arith) e))
    name_stands r c i role.Operand f a t = used_stands r i (record { name = i; role = role.Operand; site = c.site; constant = c.constant; initial = c.initial }) refl a t
    name_stands r c i role.Assigned f a t = used_stands r i (record { name = i; role = role.Assigned; site = c.site; constant = c.constant; initial = c.initial }) refl a t
    name_stands r c i role.Called f a t = used_stands r i (record { name = i; role = role.Called; site = c.site; constant = c.constant; initial = c.initial }) refl a t
    name_stands r c i (role.Selected j b) f a t = used_stands r i (record { name = i; role = role.Selected j b; site = c.site; constant = c.constant; initial = c.initial }) refl a t

    name_placed : (s : Scope) (r : Standing) (h : Hint) (c : Context) (i : ℕ) → s.objects i ≡ o i → Fits h c.role kind.Name c.group → Agrees r c.role → AreTold (name_events c i c.role) i (suc i) → NameIsPlaced count [] r s h i
    name_placed s r declares c i e f a t = own_form s (s.objects i) (subst NoObject (sym e) (member_own c i c.role f t))
    name_placed s r free c i e f a t = tt
    name_placed s r h c i e f a t = subst (MayStand count [] r) (sym e) (name_stands r c i c.role f a t)

    -- ---- the names of an expression

    -- where tokens mean the same
    abbrev pub Sees : Scope → Type 0
    Sees s = (i : ℕ) → s.objects i ≡ o i

    part_sees : (s : Scope) (k : Kind) (xs : Parts) → Sees s → Sees (part_scope s k xs)
    part_sees s kind.SequenceType [] e = e
    part_sees s kind.SequenceType (x ∷ xs) e = e
    part_sees s k xs e = e

    node_placed : (s : Scope) (r : Standing) (h : Hint) (c : Context) (k : Kind) (i j : ℕ) (ps : Trees) → Sees s → Fits h c.role k c.group → AgreesAt k r c.role → IsLaidOut (node k i j ps) → AreTold (events c (node k i j ps)) i j
        → NodeIsPlaced count [] k r s h i
    node_placed s r h c kind.Name i j ps e f a l t = name_placed s r h c i (e i) f a (own_told c kind.Name i j ps l.0 l.1 (lie_order (suc i) j ps l.1) t)
    node_placed s r h c k i j ps e f a l t = tt

    from_name : (k : Kind) (i : ℕ) → is_simple k ≡ true → i ≤ behind_name k i
    from_name kind.DeclaredName i e = omega arith
    from_name kind.Name i e = omega arith
    from_name kind.FunctionDeclaration i e = let no : false ≡ true = e in cc
    from_name (kind.Specification s) i e = let no : false ≡ true = e in cc
    from_name k i e = omega arith

    mutual
      pub tree_placed : (s : Scope) (r : Standing) (h : Hint) (c : Context) (t : Tree) → Sees s → IsTidy t → Fits h c.role (kind_of t) c.group → AgreesAt (kind_of t) r c.role → IsLaidOut t → AreTold (events c t) (first t) (last t)
          → ExpressionIsPlaced count [] r s h t
      tree_placed s r h c (node k i j ps) e y f a l t = (
        node_placed s r h c k i j ps e f a l t,
        parts_placed s r h (begin c k) k i j ps true [] 0 ps (behind_name k i) e y.0 y.1 tt f a l.1 (parts_told c k i j ps (simple_quiet k y.0) (from_name k i y.0) t),
      )

      parts_placed : (s : Scope) (r : Standing) (h : Hint) (c : Context) (k : Kind) (i j : ℕ) (all : Trees) (b : Bool) (xs : Parts) (m : ℕ) (qs : Trees) (lo : ℕ) → Sees s → is_simple k ≡ true → AreTidy k b qs → IsPlace b xs m
          → Fits h c.role k c.group → AgreesAt k r c.role → LieIn lo j qs → AreTold (events_of c k i j all m qs) lo j → ExpressionsArePlaced count [] r s k h all xs qs
      parts_placed s r h c k i j all b xs m none lo e w y z f a l t = tt
      parts_placed s r h c k i j all b xs m (more q qs) lo e w y z f a l t = (
        tree_placed (part_scope s k xs) (standing_in r k xs (kind_of q)) (hint s k h all xs (kind_of q)) (enter c k i j all (ends_named all) m q (is_more qs)) q (part_sees s k xs e) y.1 (part_fits s h c i j all k b xs m q w z f y.0)
            (part_agrees c r i j (ends_named all) k b xs m q w z a y.0) l.1 (first_told c k i j all m q qs lo l t),
        parts_placed s r h (pass c q) k i j all false (xs ++ Some (typing (part_scope s k xs) (hint s k h all xs (kind_of q)) q) ∷ []) (suc m) qs (last q) e w y.2
            (next_place xs (Some (typing (part_scope s k xs) (hint s k h all xs (kind_of q)) q)) m) f a l.2 (rest_told c k i j all m q qs lo l t),
      )
      parts_placed s r h c k i j all b xs m (skip qs) lo e w y z f a l t = parts_placed s r h c k i j all false (xs ++ None ∷ []) (suc m) qs lo e w y (next_place xs None m) f a l t
