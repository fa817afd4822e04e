-- A name of an expression is looked up where what it means is an object of the package, in the part of a declaration where the expression
-- stands.
use Rattle.std.proofs.Common.{◌≡◌, ◌∙◌, ℕ, zero, suc, ◌⊎◌, inl, inr, Bool, true, false, List, [], ◌∷◌, ◌++◌, Option, Some, None, refl, sym, subst, arith}
use Rattle.go_tokens.specs.Tokens.{TokenList}
use Rattle.go_grammar.specs.declared.kind.Kind.{Kind}
use Rattle.go_grammar.specs.declared.kind.Kind.TheVariants as kind
use Rattle.go_grammar.specs.Trees.{Tree, node, Trees, none, more, skip, first, last}
use Rattle.go_grammar.specs.Grammar.{ends_named}
use Rattle.go_tree.specs.Views.{part_at}
use Rattle.go_tree.specs.declared.context.Block.TheVariants as block
use Rattle.go_tree.specs.declared.context.Entity.TheVariants as entity
use Rattle.go_tree.specs.declared.context.Manner.TheVariants as manner
use Rattle.go_tree.specs.declared.context.Reach.TheVariants as reach
use Rattle.go_tree.specs.declared.context.Role.{Role}
use Rattle.go_tree.specs.declared.context.Role.TheVariants as role
use Rattle.go_tree.specs.declared.context.Scope.{Scope}
use Rattle.go_tree.specs.declared.context.Site.{Site}
use Rattle.go_tree.specs.declared.context.Site.TheVariants as site
use Rattle.go_tree.specs.declared.context.Context.{Context}
use Rattle.go_tree.specs.declared.event.Declaration.{Declaration}
use Rattle.go_tree.specs.declared.event.Use.{Use}
use Rattle.go_tree.specs.declared.event.Event.{Event}
use Rattle.go_tree.specs.declared.event.Event.TheVariants as event
use Rattle.go_tree.specs.declared.object.Object.{Object}
use Rattle.go_tree.specs.declared.object.Object.TheVariants as object
use Rattle.go_tree.specs.Contexts.{is_there, is_package, element_site, length_site, sequence_site, site_in, enter}
use Rattle.go_tree.specs.Events.{name_events, is_more, pass, begin, events, events_of}
use Rattle.go_tree.specs.Meanings.{Meaning}
use Rattle.go_tree.specs.Objects.{token_object}
use Rattle.go_scopes_events.proofs.Public.{IsLaidOut, LieIn, behind_name}
use Rattle.go_package_laws.specs.Names.{NameHas, EachName, EachNameIn}
use Rattle.go_package_settled.proofs.Around.{Around, none_told, around_own, around_parts, around_first, around_rest, around_told}
use Rattle.go_package_settled.proofs.Naming.{NotNew, part_not}
use Rattle.go_package_settled.proofs.Simple.{is_simple, IsSimple, AreSimple, simple_holds}
use Rattle.go_package_settled.proofs.Tokens.{Tells}

-- ---- what is looked up

abbrev pub AnyUsed : (Use → Type 0) → List Event → Type 0
AnyUsed P [] = ⊥
AnyUsed P (event.Use u ∷ es) = P u ⊎ AnyUsed P es
AnyUsed P (e ∷ es) = AnyUsed P es

used_front : (P : Use → Type 0) (es fs : List Event) → AnyUsed P es → AnyUsed P (es ++ fs)
used_front P [] fs h = absurd h
used_front P (event.Use u ∷ es) fs (inl h) = inl h
used_front P (event.Use u ∷ es) fs (inr h) = inr (used_front P es fs h)
used_front P (e ∷ es) fs h = used_front P es fs h

used_behind : (P : Use → Type 0) (es fs : List Event) → AnyUsed P fs → AnyUsed P (es ++ fs)
used_behind P [] fs h = h
used_behind P (event.Use u ∷ es) fs h = inr (used_behind P es fs h)
used_behind P (e ∷ es) fs h = used_behind P es fs h

tells_front : (d : Declaration) (es fs : List Event) → Tells d es → Tells d (es ++ fs)
tells_front d [] fs h = absurd h
tells_front d (event.Declaration x ∷ es) fs (inl h) = inl h
tells_front d (event.Declaration x ∷ es) fs (inr h) = inr (tells_front d es fs h)
tells_front d (e ∷ es) fs h = tells_front d es fs h

tells_behind : (d : Declaration) (es fs : List Event) → Tells d fs → Tells d (es ++ fs)
tells_behind d [] fs h = h
tells_behind d (event.Declaration x ∷ es) fs h = inr (tells_behind d es fs h)
tells_behind d (e ∷ es) fs h = tells_behind d es fs h

-- It is the token i, and stands in such a part.
pub record IsUse (S : Site → Type 0) (i : ℕ) (u : Use) : Type 0 where
  pub name : u.name ≡ i
  pub site : S u.site

-- The part stays the same in types of elements, in function types and in lengths.
pub record IsFixed (s : Site) : Type 0 where
  pub element : (b : Bool) → element_site b s ≡ s
  pub length : length_site s ≡ s

pub type_fixed : (d : ℕ) → IsFixed (site.Type d)
type_fixed d = record { element = by; length = refl }
  where
    by : (b : Bool) → element_site b (site.Type d) ≡ site.Type d
    by true = refl
    by false = refl

pub value_fixed : (d c : ℕ) (alone : Bool) → IsFixed (site.Value d c alone)
value_fixed d c alone = record { element = by; length = refl }
  where
    by : (b : Bool) → element_site b (site.Value d c alone) ≡ site.Value d c alone
    by true = refl
    by false = refl

pub length_fixed : (d : ℕ) → IsFixed (site.Right d reach.Length)
length_fixed d = record { element = by; length = refl }
  where
    by : (b : Bool) → element_site b (site.Right d reach.Length) ≡ site.Right d reach.Length
    by true = refl
    by false = refl

sequence_kept : (c : Context) (ps : Trees) (m : ℕ) → IsFixed c.site → sequence_site c ps m ≡ c.site
sequence_kept c ps zero f = f.length
sequence_kept c ps (suc m) f = f.element (is_there (part_at ps 0))

site_kept : (c : Context) (k : Kind) (i : ℕ) (ps : Trees) (m : ℕ) (p : Tree) → is_simple k ≡ true → IsFixed c.site → site_in c k i ps m p ≡ c.site
site_kept c kind.SequenceType i ps m p e f = sequence_kept c ps m f
site_kept c kind.FunctionType i ps m p e f = f.element false
site_kept c (kind.Specification s) i ps m p e f = let no : false ≡ true = e in cc
site_kept c kind.Values i ps m p e f = let no : false ≡ true = e in cc
site_kept c kind.TypedValues i ps m p e f = let no : false ≡ true = e in cc
site_kept c kind.ExpressionList i ps m p e f = let no : false ≡ true = e in cc
site_kept c kind.FunctionDeclaration i ps m p e f = let no : false ≡ true = e in cc
site_kept c k i ps m p e f = refl

-- what a parameter declares in a body
abbrev parameter_of : ℕ → Scope → Declaration
parameter_of i s = record { name = i; entity = entity.Parameter; manner = manner.Declared; block = block.Local s.from; scope = s; statement = i; source = None; column = 0 }

-- a name that is looked up
abbrev used_of : Context → ℕ → Use
used_of c i = record { name = i; role = c.role; site = c.site; constant = c.constant; initial = c.initial }

-- names that are parameters, fields or keys
abbrev pub IsMember : Role → Type 0
IsMember (role.Field g) = Unit {0}
IsMember (role.Key g) = Unit {0}
IsMember (role.Parameter g s) = Unit {0}
IsMember r = ⊥

module _ (ms : List Meaning) (n : ℕ) (ts : TokenList) (es : List Event) where
  -- No token that declares a local is an object of the package.
  abbrev pub LocalsApart : Type 0
  LocalsApart = (d : Declaration) → Tells d es → d.manner ≡ manner.Declared → is_package d.block ≡ false → (m : ℕ) → token_object ms n ts d.name es ≡ Some (object.Package m) → ⊥

  -- If the token is an object of the package, it is looked up in such a part.
  abbrev pub Told : (Site → Type 0) → ℕ → Type 0
  Told S i = (m : ℕ) → token_object ms n ts i es ≡ Some (object.Package m) → AnyUsed (IsUse S i) es

  module _ (apart : LocalsApart) where
    abbrev P : ℕ → Type 0
    P i = (m : ℕ) → token_object ms n ts i es ≡ Some (object.Package m) → ⊥

    -- what tells nothing of the token
    quiet : (own : List Event) (i : ℕ) → ((after : List Event) → token_object ms n ts i (own ++ after) ≡ token_object ms n ts i after) → Around es own i (suc i) → P i
    quiet own i f a m q =
        let r = around_told ms n ts es own i (suc i) i a (omega arith) in
        let none : token_object ms n ts i es ≡ None = r.3 ∙ f r.1 ∙ none_told ms n ts i (suc i) r.0 r.1 r.2 (omega arith) in
        no_object m (sym none ∙ q)
      where
        no_object : (k : ℕ) → ◌≡◌ {A = Option Object} None (Some (object.Package k)) → ⊥
        no_object k e = cc

    member_apart : (c : Context) (i : ℕ) (r : Role) → IsMember r → Around es (name_events c i r) i (suc i) → P i
    member_apart c i (role.Field g) h a = quiet (name_events c i (role.Field g)) i (λ after. refl) a
    member_apart c i (role.Key g) h a = quiet (name_events c i (role.Key g)) i (λ after. refl) a
    member_apart c i (role.Parameter g None) h a = quiet (name_events c i (role.Parameter g None)) i (λ after. refl) a
    member_apart c i (role.Parameter g (Some s)) h a = λ m q.
        apart (parameter_of i s) (subst (Tells (parameter_of i s)) (sym a.whole) (tells_behind (parameter_of i s) a.before (name_events c i (role.Parameter g (Some s)) ++ a.after) (inl refl))) refl refl m q
    member_apart c i r h a = absurd h

    pub member_told : (S : Site → Type 0) (c : Context) (i : ℕ) (r : Role) → IsMember r → Around es (name_events c i r) i (suc i) → Told S i
    member_told S c i r h a = λ m q. absurd (member_apart c i r h a m q)

    used_told : (S : Site → Type 0) (u : Use) → S u.site → Around es (event.Use u ∷ []) u.name (suc u.name) → Told S u.name
    used_told S u s a = λ m q. subst (AnyUsed (IsUse S u.name)) (sym a.whole) (used_behind (IsUse S u.name) a.before (event.Use u ∷ a.after) (inl (record { name = refl; site = s })))

    pub name_told : (S : Site → Type 0) (c : Context) (i : ℕ) (r : Role) → NotNew r → S c.site → Around es (name_events c i r) i (suc i) → Told S i
    name_told S c i (role.New d) h s a = absurd h
    name_told S c i (role.Field g) h s a = member_told S c i (role.Field g) tt a
    name_told S c i (role.Key g) h s a = member_told S c i (role.Key g) tt a
    name_told S c i (role.Parameter g x) h s a = member_told S c i (role.Parameter g x) tt a
    name_told S c i r h s a = used_told S (used_of c i) s a

    -- ---- the names of an expression

    name_at : (s : Site) (c : Context) (k : Kind) (i j : ℕ) (ps : Trees) → c.site ≡ s → NotNew c.role → IsLaidOut (node k i j ps) → Around es (events c (node k i j ps)) i j → NameHas (Told (λ z. z ≡ s)) k i
    name_at s c kind.Name i j ps e r l a = name_told (λ z. z ≡ s) c i c.role r e (around_own es c kind.Name i j ps l a)
    name_at s c k i j ps e r l a = tt

    mutual
      pub names_told : (s : Site) → IsFixed s → (c : Context) (t : Tree) → c.site ≡ s → NotNew c.role → IsSimple t → IsLaidOut t → Around es (events c t) (first t) (last t) → EachName (Told (λ z. z ≡ s)) t
      names_told s f c (node k i j ps) e r h l a = (
        name_at s c k i j ps e r l a,
        parts_told s f (begin c k) k i j ps 0 ps (behind_name k i) e r h.0 h.1 l.1 (around_parts es c k i j ps a),
      )

      parts_told : (s : Site) → IsFixed s → (c : Context) (k : Kind) (i j : ℕ) (all : Trees) (m : ℕ) (qs : Trees) (lo : ℕ) → c.site ≡ s → NotNew c.role → is_simple k ≡ true → AreSimple qs → LieIn lo j qs
          → Around es (events_of c k i j all m qs) lo j → EachNameIn (Told (λ z. z ≡ s)) qs
      parts_told s f c k i j all m none lo e r b h l a = tt
      parts_told s f c k i j all m (skip qs) lo e r b h l a = parts_told s f c k i j all (suc m) qs lo e r b h l a
      parts_told s f c k i j all m (more p qs) lo e r b h l a = (
        names_told s f (enter c k i j all (ends_named all) m p (is_more qs)) p (site_kept c k i all m p b (subst IsFixed (sym e) f) ∙ e) (part_not c k i j (ends_named all) m p (simple_holds k b) r) h.0 l.1
            (around_first es c k i j all m p qs lo l a),
        parts_told s f (pass c p) k i j all (suc m) qs (last p) e r b h.1 l.2 (around_rest es c k i j all m p qs lo l a),
      )
