-- Values and types declare nothing, whatever they are read to be.
use Rattle.std.proofs.Common.{◌≡◌, ◌∙◌, ℕ, Bool, true, false, List, [], ◌∷◌, ◌++◌, Option, Some, None, refl, ap, cond}
use Rattle.std.specs.Prelude.{◌-◌, nat_lt}
use Rattle.go_grammar.specs.Grammar.{count}
use Rattle.go_grammar.specs.declared.kind.Kind.{Kind}
use Rattle.go_grammar.specs.declared.kind.Kind.TheVariants as kind
use Rattle.go_grammar.specs.Trees.{Tree, node, Trees, none, more, skip, kind_of}
use Rattle.go_tree.specs.declared.object.Object.{Object}
use Rattle.go_tree.specs.declared.object.Object.TheVariants as object
use Rattle.go_types.specs.Relations.{Rights}
use Rattle.go_typed.specs.declared.form.Form.{Form}
use Rattle.go_typed.specs.declared.form.Form.TheVariants as form
use Rattle.go_typed.specs.Trees.{typed, row, list_of, parts_of, form_of, sort_of}
use Rattle.go_typed.specs.Trees as sort
use Rattle.go_exprs_rules.specs.Names.{object_form, form_or_type, name_sort, name_form}
use Rattle.go_exprs_rules.specs.Scopes.{Hint, Scope, value, several, declares, free}
use Rattle.go_exprs_rules.specs.Settling.{Part}
use Rattle.go_exprs_rules.specs.Sorts.{Stands}
use Rattle.go_exprs_rules.specs.Tables.{Parts, is_held, held, all_held, is_type, leaf, first_cut, is_placed, callee_form, selector_form, bracketed_form, on_first}
use Rattle.go_exprs_rules.specs.Tables as tables
use Rattle.go_exprs_rules.specs.Typing.{typing, typings}
use Rattle.go_stmts_defs.specs.Frames.{Frame, scope_of}
use Rattle.go_stmts_defs.specs.Laying.{told, layout, is_values, typed_or_not}
use Rattle.go_stmts_defs.specs.Reading.{is_list, is_declared_name, list_node, name_node, holding, holdings, is_new, is_statement, declares_sort, declares_all}
use Rattle.go_stmts_elsewhere.specs.Declaring.{IsValue, AreValues}
use Rattle.go_stmts_elsewhere.proofs.Naming.{branch}

-- these declare nothing
abbrev pub AllSilent : Parts → Type 0
AllSilent [] = Unit {0}
AllSilent (None ∷ xs) = AllSilent xs
AllSilent (Some x ∷ xs) = (is_new (form_of x) ≡ None) × AllSilent xs

-- nor does this, nor what it holds
abbrev pub IsSilent : Part → Type 0
IsSilent x = (is_new (form_of x) ≡ None) × AllSilent (held (Some x))

abbrev AreSilent : Parts → Type 0
AreSilent [] = Unit {0}
AreSilent (None ∷ xs) = AreSilent xs
AreSilent (Some x ∷ xs) = IsSilent x × AreSilent xs

-- ---- lists

silent_both : (xs ys : Parts) → AllSilent xs → AllSilent ys → AllSilent (xs ++ ys)
silent_both [] ys e d = d
silent_both (None ∷ xs) ys e d = silent_both xs ys e d
silent_both (Some x ∷ xs) ys e d = (e.0, silent_both xs ys e.1 d)

silent_row : (xs : Parts) → AllSilent xs → AllSilent (list_of (row xs))
silent_row [] e = tt
silent_row (None ∷ xs) e = silent_row xs e
silent_row (Some x ∷ xs) e = (e.0, silent_row xs e.1)

all_silent : (xs : Parts) → AreSilent xs → AllSilent xs
all_silent [] e = tt
all_silent (None ∷ xs) e = all_silent xs e
all_silent (Some x ∷ xs) e = (e.0.0, all_silent xs e.1)

held_silent : (xs : Parts) → AreSilent xs → AllSilent (all_held xs)
held_silent [] e = tt
held_silent (None ∷ xs) e = held_silent xs e
held_silent (Some x ∷ xs) e = silent_both (held (Some x)) (all_held xs) e.0.1 (held_silent xs e.1)

behind_silent : (xs : Parts) (x : Option Part) → AreSilent xs → AreSilent (x ∷ []) → AreSilent (xs ++ x ∷ [])
behind_silent [] x e d = d
behind_silent (None ∷ xs) x e d = behind_silent xs x e d
behind_silent (Some y ∷ xs) x e d = (e.0, behind_silent xs x e.1 d)

-- ---- expressions and types

-- what is told that a name stands here
abbrev pub is_naming : Hint → Bool
is_naming declares = true
is_naming free = true
is_naming h = false

abbrev Plain : Form → Type 0
Plain r = (is_held r ≡ false) × (is_new r ≡ None)

object_plain : (s : Scope) (o : Option Object) → Plain (object_form s o)
object_plain s None = (refl, refl)
object_plain s (Some object.Import) = (refl, refl)
object_plain s (Some (object.Predeclared p)) = (refl, refl)
object_plain s (Some (object.Package n)) = (refl, refl)
object_plain s (Some (object.Local f n)) = (refl, refl)

either_plain : (x : Stands) (r : Form) → Plain r → Plain (form_or_type x r)
either_plain (sort.IsType t) r e = (refl, refl)
either_plain x r e = e

name_plain : (s : Scope) (h : Hint) → is_naming h ≡ false → (i : ℕ) → Plain (name_form s h i)
name_plain s declares e i = cc
name_plain s free e i = cc
name_plain s h e i = either_plain (name_sort s h i) (object_form s (s.objects i)) (object_plain s (s.objects i))

selector_plain : (r : Rights) (name : List ℕ) (ys : Parts) → Plain (selector_form r name ys)
selector_plain r name [] = (refl, refl)
selector_plain r name (None ∷ ys) = (refl, refl)
selector_plain r name (Some x ∷ []) = (refl, refl)
selector_plain r name (Some x ∷ y ∷ ys) = (refl, refl)

bracketed_plain : (ys : Parts) → Plain (bracketed_form ys)
bracketed_plain [] = (refl, refl)
bracketed_plain (x ∷ []) = (refl, refl)
bracketed_plain (x ∷ y ∷ []) = (refl, refl)
bracketed_plain (x ∷ y ∷ z ∷ zs) = (refl, refl)

callee_plain : (x : Stands) → Plain (callee_form x)
callee_plain (sort.IsType t) = (refl, refl)
callee_plain x = (refl, refl)

call_plain : (ys : Parts) → Plain (on_first form.Call (λ f xs. callee_form (sort_of f)) ys)
call_plain [] = (refl, refl)
call_plain (None ∷ ys) = (refl, refl)
call_plain (Some x ∷ ys) = callee_plain (sort_of x)

form_plain : (s : Scope) (k : Kind) → is_placed k ≡ true → (h : Hint) → is_naming h ≡ false → (i j : ℕ) (ys : Parts) → Plain (tables.form_by s k h i j ys)
form_plain s kind.Name e h d i j ys = name_plain s h d i
form_plain s kind.Integer e h d i j ys = (refl, refl)
form_plain s kind.Rune e h d i j ys = (refl, refl)
form_plain s kind.Text e h d i j ys = (refl, refl)
form_plain s kind.Parenthesized e h d i j ys = (refl, refl)
form_plain s (kind.Unary o) e h d i j ys = (refl, refl)
form_plain s (kind.Binary o) e h d i j ys = (refl, refl)
form_plain s kind.Selector e h d i j ys = selector_plain s.rights (s.texts (j - 1)) ys
form_plain s kind.Bracketed e h d i j ys = bracketed_plain ys
form_plain s kind.Call e h d i j ys = call_plain ys
form_plain s kind.Composite e h d i j ys = (refl, refl)
form_plain s kind.LiteralValue e h d i j ys = (refl, refl)
form_plain s kind.ParenthesizedType e h d i j ys = (refl, refl)
form_plain s kind.SequenceType e h d i j ys = (refl, refl)
form_plain s kind.FunctionType e h d i j ys = (refl, refl)
form_plain s kind.StructType e h d i j ys = (refl, refl)
form_plain s k e h d i j ys = cc

built_form : (s : Scope) (k : Kind) (h : Hint) (i j : ℕ) (ys : Parts) (b : Bool) → form_of (tables.built_by s k h i j ys b) ≡ tables.form_by s k h i j ys
built_form s k h i j ys true = refl
built_form s k h i j ys false = refl

pub typed_form : (s : Scope) (h : Hint) (k : Kind) (i j : ℕ) (ps : Trees) → form_of (typing s h (node k i j ps)) ≡ tables.form_by s k h i j (tables.layout k (typings s k h ps [] ps))
typed_form s h k i j ps =
    let ys = tables.layout k (typings s k h ps [] ps) in
    built_form s k h i j ys (tables.is_sound k ys (tables.own_faults s k h i j ys))

whole_silent : (b : Bool) (x : Part) → b ≡ false → (ys : Parts) → is_new (form_of x) ≡ None → AllSilent (cond b ys (Some x ∷ []))
whole_silent true x e ys d = cc
whole_silent false x e ys d = (d, tt)

plain_silent : (x : Part) → Plain (form_of x) → IsSilent x
plain_silent x e = (e.1, whole_silent (is_held (form_of x)) x e.0 (list_of (parts_of x)) e.1)

placed_unlisted : (k : Kind) → is_placed k ≡ true → is_list k ≡ false
placed_unlisted kind.Name e = refl
placed_unlisted k e = cc

placed_unnamed : (k : Kind) → is_placed k ≡ true → is_declared_name k ≡ false
placed_unnamed kind.Name e = refl
placed_unnamed k e = cc

placed_quiet : (k : Kind) → is_placed k ≡ true → is_statement k ≡ false
placed_quiet kind.Name e = refl
placed_quiet k e = cc

third_silent : (b c : Bool) (x y z : Part) → b ≡ false → c ≡ false → IsSilent z → IsSilent (cond b x (cond c y z))
third_silent true c x y z e d k = cc
third_silent false true x y z e d k = cc
third_silent false false x y z e d k = k

placed_silent : (s : Frame) (h : Hint) → is_naming h ≡ false → (k : Kind) (i j : ℕ) (ps : Trees) → is_placed k ≡ true → IsSilent (holding s h (node k i j ps))
placed_silent s h e k i j ps v =
    let f = typed_form (scope_of s) h k i j ps in
    let p = form_plain (scope_of s) k v h e i j (tables.layout k (typings (scope_of s) k h ps [] ps)) in
    third_silent (is_list k) (is_declared_name k) (list_node s k i j (layout s k i (holdings s k h ps [] ps))) (name_node s i j) (typing (scope_of s) h (node k i j ps)) (placed_unlisted k v) (placed_unnamed k v)
    (plain_silent (typing (scope_of s) h (node k i j ps)) (ap is_held f ∙ p.0, ap is_new f ∙ p.1))

-- ---- values

abbrev HoldsValues : Kind → Type 0
HoldsValues kind.TypedValues = Unit {0}
HoldsValues kind.Values = Unit {0}
HoldsValues kind.ExpressionList = Unit {0}
HoldsValues k = ⊥

value_or_several : (b : Bool) → is_naming (cond b value several) ≡ false
value_or_several true = refl
value_or_several false = refl

told_plain : (k : Kind) → HoldsValues k → (h : Hint) → is_naming h ≡ false → (all : Trees) (xs : Parts) (p : Kind) → is_naming (told k h all xs p) ≡ false
told_plain kind.TypedValues q h e all [] p = refl
told_plain kind.TypedValues q h e all (x ∷ xs) p = e
told_plain kind.Values q h e all xs p = e
told_plain kind.ExpressionList q several e all xs p = value_or_several (nat_lt 1 (count all))
told_plain kind.ExpressionList q h e all xs p = e
told_plain k q h e all xs p = absurd q

mutual
  pub value_silent : (s : Frame) (h : Hint) → is_naming h ≡ false → (t : Tree) → IsValue t → IsSilent (holding s h t)
  value_silent s h e (node kind.TypedValues i j ps) v =
      let ys = holdings s kind.TypedValues h ps [] ps in
      (refl, silent_row (all_held ys) (held_silent ys (values_silent s kind.TypedValues tt h e ps [] tt ps v)))
  value_silent s h e (node kind.Values i j ps) v =
      let ys = holdings s kind.Values h ps [] ps in
      (refl, silent_row (all_held ys) (held_silent ys (values_silent s kind.Values tt h e ps [] tt ps v)))
  value_silent s h e (node kind.ExpressionList i j ps) v =
      let ys = holdings s kind.ExpressionList h ps [] ps in
      (refl, silent_row ys (all_silent ys (values_silent s kind.ExpressionList tt h e ps [] tt ps v)))
  value_silent s h e (node k i j ps) v = placed_silent s h e k i j ps v

  values_silent : (s : Frame) (k : Kind) → HoldsValues k → (h : Hint) → is_naming h ≡ false → (all : Trees) (xs : Parts) → AreSilent xs → (ts : Trees) → AreValues ts → AreSilent (holdings s k h all xs ts)
  values_silent s k q h e all xs d none v = d
  values_silent s k q h e all xs d (skip ts) v = values_silent s k q h e all (xs ++ None ∷ []) (behind_silent xs None d tt) ts v
  values_silent s k q h e all xs d (more t ts) v =
      let x = holding s (told k h all xs (kind_of t)) t in
      values_silent s k q h e all (xs ++ Some x ∷ []) (behind_silent xs (Some x) d (value_silent s (told k h all xs (kind_of t)) (told_plain k q h e all xs (kind_of t)) t v.0, tt)) ts v.1

pub value_quiet : (t : Tree) → IsValue t → is_statement (kind_of t) ≡ false
value_quiet (node kind.TypedValues i j ps) v = refl
value_quiet (node kind.Values i j ps) v = refl
value_quiet (node kind.ExpressionList i j ps) v = refl
value_quiet (node k i j ps) v = placed_quiet k v

-- ---- behind the names of a specification

cut_silent : (xs : Parts) → AllSilent xs → AllSilent (first_cut xs)
cut_silent [] e = tt
cut_silent (None ∷ xs) e = e
cut_silent (Some (typed r i j l ps) ∷ xs) e =
    branch (λ (o : Option Part). AllSilent (o ∷ xs)) (is_type l.sort) (Some (leaf (typed r i j l ps))) (Some (typed r i j l ps)) (refl, e.1) e

pub values_behind : (x : Part) → IsSilent x → AllSilent (first_cut (typed_or_not (Some x)))
values_behind x e = cut_silent (typed_or_not (Some x)) (branch AllSilent (is_values (Some x)) (None ∷ held (Some x)) (held (Some x)) e.1 e.1)

pub silent_same : (xs : Parts) (f : Frame) → AllSilent xs → declares_all xs f ≡ f
silent_same [] f e = refl
silent_same (None ∷ xs) f e = silent_same xs f e
silent_same (Some x ∷ xs) f e = ap (λ o. declares_all xs (declares_sort o (sort_of x) f)) e.0 ∙ silent_same xs f e.1
