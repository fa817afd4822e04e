-- What a part of an expression or a type is told, beside the role that a name has there.
use Rattle.std.proofs.Common.{◌≡◌, ℕ, zero, suc, Bool, true, false, [], ◌∷◌, ◌++◌, Option, Some, None, refl, ap}
use Rattle.std.specs.Prelude.{if◌then◌else◌, not, is_some}
use Rattle.go_grammar.specs.declared.kind.Kind.{Kind}
use Rattle.go_grammar.specs.declared.kind.Kind.TheVariants as kind
use Rattle.go_grammar.specs.Grammar.{ends_named, is_name, is_parameter}
use Rattle.go_grammar.specs.Trees.{Tree, Trees, kind_of}
use Rattle.go_tree.specs.declared.context.Context.{Context}
use Rattle.go_tree.specs.declared.context.Role.{Role}
use Rattle.go_tree.specs.declared.context.Role.TheVariants as role
use Rattle.go_tree.specs.declared.context.Scope as extents
use Rattle.go_tree.specs.Contexts as contexts
use Rattle.go_tree.specs.Contexts.{is_called, if_name, if_first, field_role, key_role, parameter_role, entry_role, role_in, group_in}
use Rattle.go_types.specs.Trees.{TypeTree, array, slice, structure}
use Rattle.go_types.specs.Relations.{Rights}
use Rattle.go_types_relations.specs.Tests.{underlying_of}
use Rattle.go_typed.specs.Trees.{sort_of}
use Rattle.go_exprs_rules.specs.Scopes.{Scope, Hint, value, several, type_place, loose, inside, loose_inside, statement, declares, free}
use Rattle.go_exprs_rules.specs.Settling.{Part}
use Rattle.go_exprs_rules.specs.Tables.{Parts, in_parentheses, as_type_place, element_in, element_told, told_type, is_make, argument_told, call_told, composite_told, skips_first, sequence_told, hint}
use Rattle.go_exprs_rules.specs.TypeNodes.{part_type}
use Rattle.go_stmts_final_types.specs.Names.{Standing, alone, called, selected, called_in, selected_in, standing_in}
use Rattle.go_package_placed.proofs.Tidy.{is_simple, is_declared_name, is_name_list, may_stand}

-- ---- hints

-- it is no name that is declared or a key
abbrev pub is_told : Hint → Bool
is_told declares = false
is_told free = false
is_told h = true

parentheses_told : (h : Hint) → is_told (in_parentheses h) ≡ true
parentheses_told loose = refl
parentheses_told loose_inside = refl
parentheses_told several = refl
parentheses_told type_place = refl
parentheses_told inside = refl
parentheses_told statement = refl
parentheses_told declares = refl
parentheses_told free = refl
parentheses_told h = refl

place_told : (h : Hint) → is_told (as_type_place h) ≡ true
place_told loose = refl
place_told loose_inside = refl
place_told h = refl

element_in_told : (t : TypeTree) (u : Option TypeTree) → is_told (element_in t u) ≡ true
element_in_told t (Some (array n e)) = refl
element_in_told t (Some (slice e)) = refl
element_in_told t (Some (structure ns ts)) = refl
element_in_told t u = refl

elements_told : (rights : Rights) (o : Option TypeTree) → is_told (element_told rights o) ≡ true
elements_told rights None = refl
elements_told rights (Some t) = element_in_told t (underlying_of rights t)

arguments_told : (xs : Parts) → is_told (argument_told xs) ≡ true
arguments_told [] = refl
arguments_told (None ∷ xs) = refl
arguments_told (Some f ∷ (x ∷ xs)) = refl
arguments_told (Some f ∷ []) = by (is_make (sort_of f))
  where
    by : (b : Bool) → is_told (if b then type_place else value) ≡ true
    by true = refl
    by false = refl

calls_told : (xs : Parts) → is_told (call_told xs) ≡ true
calls_told [] = refl
calls_told (x ∷ xs) = arguments_told (x ∷ xs)

composites_told : (rights : Rights) (xs : Parts) → is_told (composite_told rights xs) ≡ true
composites_told rights [] = refl
composites_told rights (t ∷ xs) = elements_told rights (part_type t)

sequences_told : (h : Hint) (ps : Trees) (xs : Parts) → is_told (sequence_told h ps xs) ≡ true
sequences_told h ps [] = refl
sequences_told h ps (x ∷ xs) = by (skips_first ps)
  where
    by : (b : Bool) → is_told (if b then loose else as_type_place h) ≡ true
    by true = refl
    by false = place_told h

-- ---- roles

-- A name with this role is looked up, or is no name of the package's or a function's.
abbrev pub Reads : Role → Type 0
Reads (role.New d) = ⊥
Reads (role.Parameter g s) = ⊥
Reads r = Unit {0}

-- a parameter, a field or a key
abbrev pub IsMember : Role → Type 0
IsMember (role.Field g) = Unit {0}
IsMember (role.Key g) = Unit {0}
IsMember (role.Parameter g s) = Unit {0}
IsMember r = ⊥

called_reads : (r : Role) → Reads (contexts.called_in r)
called_reads role.Called = tt
called_reads r = tt

if_reads : (b : Bool) (r : Role) → Reads r → Reads (if b then r else role.Operand)
if_reads true r h = h
if_reads false r h = tt

first_reads : (n : ℕ) (r : Role) → Reads r → Reads (if_first n r)
first_reads zero r h = h
first_reads (suc n) r h = tt

-- ---- what a part is told fits its role

abbrev PlainFits : Role → Kind → Option ℕ → Type 0
PlainFits r kind.Name g = Reads r
PlainFits r kind.Parameter g = is_some g ≡ true
PlainFits r k g = Unit {0}

abbrev DeclaresFits : Role → Kind → Type 0
DeclaresFits r kind.Name = IsMember r
DeclaresFits r kind.NameList = Unit {0}
DeclaresFits r kind.DeclaredName = Unit {0}
DeclaresFits r k = ⊥

abbrev FreeFits : Kind → Type 0
FreeFits kind.Name = Unit {0}
FreeFits kind.Signature = Unit {0}
FreeFits k = ⊥

-- A node of the kind is told so where its name has the role; g says whether it stands in a group of members.
abbrev pub Fits : Hint → Role → Kind → Option ℕ → Type 0
Fits declares r k g = DeclaresFits r k
Fits free r k g = FreeFits k
Fits h r k g = PlainFits r k g

no_parameter : (b : Bool) → not b ≡ true → b ≡ true → ⊥
no_parameter true e f = let no : false ≡ true = e in cc
no_parameter false e f = cc

plain_one : (r : Role) (q : Kind) (g : Option ℕ) → Reads r → not (is_parameter q) ≡ true → PlainFits r q g
plain_one r kind.Name g h e = h
plain_one r kind.Parameter g h e = absurd (no_parameter true e refl)
plain_one r q g h e = tt

plain_grouped : (r : Role) (q : Kind) (i : ℕ) → Reads r → PlainFits r q (Some i)
plain_grouped r kind.Name i h = h
plain_grouped r kind.Parameter i h = refl
plain_grouped r q i h = tt

told_fits : (h : Hint) (r : Role) (q : Kind) (g : Option ℕ) → is_told h ≡ true → PlainFits r q g → Fits h r q g
told_fits declares r q g e f = let no : false ≡ true = e in cc
told_fits free r q g e f = let no : false ≡ true = e in cc
told_fits h r q g e f = f

pub plain_fits : (h : Hint) (r : Role) (q : Kind) (g : Option ℕ) → is_told h ≡ true → Reads r → not (is_parameter q) ≡ true → Fits h r q g
plain_fits h r q g e f m = told_fits h r q g e (plain_one r q g f m)

-- ---- places among parts

-- whether a part is the first one
abbrev pub IsPlace : Bool → Parts → ℕ → Type 0
IsPlace true [] zero = Unit {0}
IsPlace false (x ∷ xs) (suc n) = Unit {0}
IsPlace b xs n = ⊥

pub next_place : (xs : Parts) (y : Option Part) (n : ℕ) → IsPlace false (xs ++ y ∷ []) (suc n)
next_place [] y n = tt
next_place (x ∷ xs) y n = tt

-- ---- the parts of a node

list_fits : (r : Role) (q : Kind) → is_declared_name q ≡ true → DeclaresFits r q
list_fits r kind.DeclaredName e = tt
list_fits r q e = let no : false ≡ true = e in cc

field_fits : (r : Role) (q : Kind) → is_name_list q ≡ true → DeclaresFits r q
field_fits r kind.NameList e = tt
field_fits r q e = let no : false ≡ true = e in cc

key_fits : (q : Kind) → is_name q ≡ true → FreeFits q
key_fits kind.Name e = tt
key_fits q e = let no : false ≡ true = e in cc

member_fits : (r : Role) (q : Kind) → IsMember r → is_name q ≡ true → DeclaresFits r q
member_fits r kind.Name h e = h
member_fits r q h e = let no : false ≡ true = e in cc

grouped_member : (g : Option ℕ) (s : Option extents.Scope) → is_some g ≡ true → IsMember (parameter_role g s)
grouped_member None s e = let no : false ≡ true = e in cc
grouped_member (Some i) s e = tt

-- a node of these kinds is told something
told_keyed : (h : Hint) (r : Role) (g : Option ℕ) → Fits h r kind.Keyed g → is_told h ≡ true
told_keyed declares r g f = absurd f
told_keyed free r g f = absurd f
told_keyed h r g f = refl

told_parameters : (h : Hint) (r : Role) (g : Option ℕ) → Fits h r kind.Parameters g → is_told h ≡ true
told_parameters declares r g f = absurd f
told_parameters free r g f = absurd f
told_parameters h r g f = refl

parameter_grouped : (h : Hint) (r : Role) (g : Option ℕ) → Fits h r kind.Parameter g → is_some g ≡ true
parameter_grouped declares r g f = absurd f
parameter_grouped free r g f = absurd f
parameter_grouped h r g f = f

entry_fits : (h : Hint) (named : Bool) (s : Option extents.Scope) (i : ℕ) (p : Tree) → is_told h ≡ true
    → Fits (if named then (if is_name (kind_of p) then declares else h) else as_type_place h) (entry_role named p i s) (kind_of p) (Some i)
entry_fits h false s i p e = told_fits (as_type_place h) role.Operand (kind_of p) (Some i) (place_told h) (plain_grouped role.Operand (kind_of p) i tt)
entry_fits h true s i p e = by (is_name (kind_of p)) refl
  where
    by : (b : Bool) → is_name (kind_of p) ≡ b → Fits (if b then declares else h) (if b then role.Parameter i s else role.Operand) (kind_of p) (Some i)
    by true q = member_fits (role.Parameter i s) (kind_of p) tt q
    by false q = told_fits h role.Operand (kind_of p) (Some i) e (plain_grouped role.Operand (kind_of p) i tt)

module _ (s : Scope) (h : Hint) (c : Context) (i j : ℕ) (all : Trees) where
  pub part_fits : (k : Kind) (b : Bool) (xs : Parts) (n : ℕ) (p : Tree) → is_simple k ≡ true → IsPlace b xs n → Fits h c.role k c.group → may_stand k b (kind_of p) ≡ true
      → Fits (hint s k h all xs (kind_of p)) (role_in c k i j (ends_named all) n p) (kind_of p) (group_in c k i)
  part_fits kind.NameList b xs n p e l f m = list_fits c.role (kind_of p) m
  part_fits kind.Fields true [] zero p e l f m = field_fits (field_role c.group) (kind_of p) m
  part_fits kind.Fields false (x ∷ xs) (suc n) p e l f m = plain_fits (as_type_place h) role.Operand (kind_of p) c.group (place_told h) tt m
  part_fits kind.Parameter true [] zero p e l f m = member_fits (parameter_role c.group c.parameters) (kind_of p) (grouped_member c.group c.parameters (parameter_grouped h c.role c.group f)) m
  part_fits kind.Parameter false (x ∷ xs) (suc n) p e l f m = plain_fits (as_type_place h) role.Operand (kind_of p) c.group (place_told h) tt m
  part_fits kind.Keyed true [] zero p e l f m = key_fits (kind_of p) m
  part_fits kind.Keyed false (x ∷ xs) (suc n) p e l f m = plain_fits h role.Operand (kind_of p) c.group (told_keyed h c.role c.group f) tt m
  part_fits kind.Parameters b xs n p e l f m = entry_fits h (ends_named all) c.parameters i p (told_parameters h c.role c.group f)
  part_fits kind.Parenthesized b xs n p e l f m = plain_fits (in_parentheses h) (contexts.called_in c.role) (kind_of p) c.group (parentheses_told h) (called_reads c.role) m
  part_fits kind.ParenthesizedType b xs n p e l f m = plain_fits (in_parentheses h) role.Operand (kind_of p) c.group (parentheses_told h) tt m
  part_fits kind.Call b xs n p e l f m = plain_fits (call_told xs) (if_first n role.Called) (kind_of p) c.group (calls_told xs) (first_reads n role.Called tt) m
  part_fits kind.Composite b xs n p e l f m = plain_fits (composite_told s.rights xs) role.Operand (kind_of p) (Some i) (composites_told s.rights xs) tt m
  part_fits kind.LiteralValue b xs n p e l f m = plain_fits (element_told s.rights (told_type h)) role.Operand (kind_of p) (Some i) (elements_told s.rights (told_type h)) tt m
  part_fits kind.SequenceType b xs n p e l f m = plain_fits (sequence_told h all xs) role.Operand (kind_of p) c.group (sequences_told h all xs) tt m
  part_fits kind.FunctionType b xs n p e l f m = plain_fits loose role.Operand (kind_of p) c.group refl tt m
  part_fits kind.StructType b xs n p e l f m = plain_fits (as_type_place h) role.Operand (kind_of p) (Some i) (place_told h) tt m
  part_fits kind.Signature b xs n p e l f m = plain_fits (as_type_place h) role.Operand (kind_of p) c.group (place_told h) tt m
  part_fits kind.Results b xs n p e l f m = plain_fits (as_type_place h) role.Operand (kind_of p) c.group (place_told h) tt m
  part_fits kind.Selector b xs n p e l f m = plain_fits value (if_name p (role.Selected j (is_called c.role))) (kind_of p) c.group refl (if_reads (is_name (kind_of p)) (role.Selected j (is_called c.role)) tt) m
  part_fits kind.DeclaredName b xs n p e l f m = plain_fits value role.Operand (kind_of p) c.group refl tt m
  part_fits kind.Name b xs n p e l f m = plain_fits value role.Operand (kind_of p) c.group refl tt m
  part_fits kind.Integer b xs n p e l f m = plain_fits value role.Operand (kind_of p) c.group refl tt m
  part_fits kind.Rune b xs n p e l f m = plain_fits value role.Operand (kind_of p) c.group refl tt m
  part_fits kind.Text b xs n p e l f m = plain_fits value role.Operand (kind_of p) c.group refl tt m
  part_fits (kind.Unary o) b xs n p e l f m = plain_fits value role.Operand (kind_of p) c.group refl tt m
  part_fits (kind.Binary o) b xs n p e l f m = plain_fits value role.Operand (kind_of p) c.group refl tt m
  part_fits kind.Bracketed b xs n p e l f m = plain_fits value role.Operand (kind_of p) c.group refl tt m
  part_fits kind.Bounds b xs n p e l f m = plain_fits value role.Operand (kind_of p) c.group refl tt m
  part_fits kind.BoundsFrom b xs n p e l f m = plain_fits value role.Operand (kind_of p) c.group refl tt m
  part_fits k true (x ∷ xs) n p e l f m = absurd l
  part_fits k true [] (suc n) p e l f m = absurd l
  part_fits k false [] n p e l f m = absurd l
  part_fits k false (x ∷ xs) zero p e l f m = absurd l
  part_fits k b xs n p e l f m = let no : false ≡ true = e in cc

-- ---- how a part stands fits its role

-- What is called stands as what is called, and fmt in front of a member that is called as that.
abbrev pub Agrees : Standing → Role → Type 0
Agrees r role.Called = r ≡ called
Agrees r (role.Selected j true) = r ≡ selected
Agrees r x = Unit {0}

-- of names that are declared nothing is asked
abbrev pub AgreesAt : Kind → Standing → Role → Type 0
AgreesAt kind.NameList r x = Unit {0}
AgreesAt kind.DeclaredName r x = Unit {0}
AgreesAt k r x = Agrees r x

pub agrees_at : (q : Kind) (r : Standing) (x : Role) → Agrees r x → AgreesAt q r x
agrees_at kind.NameList r x h = tt
agrees_at kind.DeclaredName r x h = tt
agrees_at q r x h = h

declared_agrees : (q : Kind) (r : Standing) (x : Role) → is_declared_name q ≡ true → AgreesAt q r x
declared_agrees kind.DeclaredName r x e = tt
declared_agrees q r x e = let no : false ≡ true = e in cc

parentheses_agree : (r : Standing) (x : Role) → Agrees r x → Agrees (called_in r) (contexts.called_in x)
parentheses_agree r role.Called h = ap called_in h
parentheses_agree r x h = tt

selected_agree : (r : Standing) (x : Role) (j : ℕ) → Agrees r x → Agrees (selected_in r) (role.Selected j (is_called x))
selected_agree r role.Called j h = ap selected_in h
selected_agree r x j h = tt

selector_agrees : (b : Bool) (r : Standing) (x : Role) (j : ℕ) → Agrees r x → Agrees (if b then selected_in r else alone) (if b then role.Selected j (is_called x) else role.Operand)
selector_agrees true r x j h = selected_agree r x j h
selector_agrees false r x j h = tt

field_agrees : (g : Option ℕ) → Agrees alone (field_role g)
field_agrees None = tt
field_agrees (Some g) = tt

key_agrees : (g : Option ℕ) → Agrees alone (key_role g)
key_agrees None = tt
key_agrees (Some g) = tt

parameter_agrees : (g : Option ℕ) (s : Option extents.Scope) → Agrees alone (parameter_role g s)
parameter_agrees None s = tt
parameter_agrees (Some g) s = tt

first_agrees : (n : ℕ) (x : Role) → Agrees alone x → Agrees alone (if_first n x)
first_agrees zero x h = h
first_agrees (suc n) x h = tt

entry_agrees : (named : Bool) (p : Tree) (i : ℕ) (s : Option extents.Scope) → Agrees alone (entry_role named p i s)
entry_agrees false p i s = tt
entry_agrees true p i s = elim (is_name (kind_of p)) as (λ b. Agrees alone (if b then role.Parameter i s else role.Operand)) [ true ↦ tt | false ↦ tt ]

module _ (c : Context) (r : Standing) (i j : ℕ) (named : Bool) where
  pub part_agrees : (k : Kind) (b : Bool) (xs : Parts) (n : ℕ) (p : Tree) → is_simple k ≡ true → IsPlace b xs n → AgreesAt k r c.role → may_stand k b (kind_of p) ≡ true
      → AgreesAt (kind_of p) (standing_in r k xs (kind_of p)) (role_in c k i j named n p)
  part_agrees kind.NameList b xs n p e l h m = declared_agrees (kind_of p) alone c.role m
  part_agrees kind.Parenthesized b xs n p e l h m = agrees_at (kind_of p) (called_in r) (contexts.called_in c.role) (parentheses_agree r c.role h)
  part_agrees kind.Selector b xs n p e l h m =
      agrees_at (kind_of p) (if is_name (kind_of p) then selected_in r else alone) (if_name p (role.Selected j (is_called c.role))) (selector_agrees (is_name (kind_of p)) r c.role j h)
  part_agrees kind.Call true [] zero p e l h m = agrees_at (kind_of p) called role.Called refl
  part_agrees kind.Call false (x ∷ xs) (suc n) p e l h m = agrees_at (kind_of p) alone role.Operand tt
  part_agrees kind.Call true (x ∷ xs) n p e l h m = absurd l
  part_agrees kind.Call true [] (suc n) p e l h m = absurd l
  part_agrees kind.Call false [] n p e l h m = absurd l
  part_agrees kind.Call false (x ∷ xs) zero p e l h m = absurd l
  part_agrees kind.Fields b xs n p e l h m = agrees_at (kind_of p) alone (if_first n (field_role c.group)) (first_agrees n (field_role c.group) (field_agrees c.group))
  part_agrees kind.Keyed b xs n p e l h m = agrees_at (kind_of p) alone (if_first n (key_role c.group)) (first_agrees n (key_role c.group) (key_agrees c.group))
  part_agrees kind.Parameter b xs n p e l h m =
      agrees_at (kind_of p) alone (if_first n (parameter_role c.group c.parameters)) (first_agrees n (parameter_role c.group c.parameters) (parameter_agrees c.group c.parameters))
  part_agrees kind.Parameters b xs n p e l h m = agrees_at (kind_of p) alone (entry_role named p i c.parameters) (entry_agrees named p i c.parameters)
  part_agrees kind.DeclaredName b xs n p e l h m = agrees_at (kind_of p) alone role.Operand tt
  part_agrees kind.Signature b xs n p e l h m = agrees_at (kind_of p) alone role.Operand tt
  part_agrees kind.Results b xs n p e l h m = agrees_at (kind_of p) alone role.Operand tt
  part_agrees kind.ParenthesizedType b xs n p e l h m = agrees_at (kind_of p) alone role.Operand tt
  part_agrees kind.SequenceType b xs n p e l h m = agrees_at (kind_of p) alone role.Operand tt
  part_agrees kind.FunctionType b xs n p e l h m = agrees_at (kind_of p) alone role.Operand tt
  part_agrees kind.StructType b xs n p e l h m = agrees_at (kind_of p) alone role.Operand tt
  part_agrees kind.Name b xs n p e l h m = agrees_at (kind_of p) alone role.Operand tt
  part_agrees kind.Integer b xs n p e l h m = agrees_at (kind_of p) alone role.Operand tt
  part_agrees kind.Rune b xs n p e l h m = agrees_at (kind_of p) alone role.Operand tt
  part_agrees kind.Text b xs n p e l h m = agrees_at (kind_of p) alone role.Operand tt
  part_agrees (kind.Unary o) b xs n p e l h m = agrees_at (kind_of p) alone role.Operand tt
  part_agrees (kind.Binary o) b xs n p e l h m = agrees_at (kind_of p) alone role.Operand tt
  part_agrees kind.Bracketed b xs n p e l h m = agrees_at (kind_of p) alone role.Operand tt
  part_agrees kind.Bounds b xs n p e l h m = agrees_at (kind_of p) alone role.Operand tt
  part_agrees kind.BoundsFrom b xs n p e l h m = agrees_at (kind_of p) alone role.Operand tt
  part_agrees kind.Composite b xs n p e l h m = agrees_at (kind_of p) alone role.Operand tt
  part_agrees kind.LiteralValue b xs n p e l h m = agrees_at (kind_of p) alone role.Operand tt
  part_agrees k b xs n p e l h m = let no : false ≡ true = e in cc
