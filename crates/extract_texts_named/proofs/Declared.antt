-- What statements declare is named by nodes of them, outside holes.
use Rattle.std.proofs.Common.{◌≡◌, ℕ, Bool, true, false, not, ◌&&◌, List, [], ◌∷◌, ◌++◌, refl, sym}
use Rattle.std.specs.Prelude.{if◌then◌else◌}
use Rattle.std.specs.Option.{option_to_list}
use Rattle.go_types.specs.Trees.{TypeTree}
use Rattle.go_typed.specs.declared.form.Form.{Form}
use Rattle.go_typed.specs.declared.form.Form.TheVariants as form
use Rattle.go_typed.specs.Forms.{local_of}
use Rattle.go_typed.specs.Trees.{Label, Typed, typed, Typeds, none, more, skip}
use Rattle.clone_window.specs.Masses.{is_constant_expression, is_hole, is_inside}
use Rattle.clone_window.specs.Sameness.{locals, all_locals}
use Rattle.param_choose.specs.Choosing.{is_needed}
use Rattle.param_choose.specs.Locals.{new_in, names_among, names_specified, holds_names, holds_specifications, names_of, names_declared, declared_names, has}
use Rattle.extract_texts_named.specs.Named.{ArePlain, SpecificationsArePlain, DeclaredLocalsAreNamed}
use Rattle.extract_texts_named.proofs.Within.{has_own, Within, within_back, within_front, within_both, where_have}

-- ---- a name that is declared is no hole

new_no_hole : (a : Bool) (n : ℕ) (l : Label TypeTree) → is_hole a (form.New n) l ≡ false
new_no_hole true n l = refl
new_no_hole false n l = refl

declared_no_hole : (a : Bool) (n : ℕ) (l : Label TypeTree) → is_hole a (form.Declared n) l ≡ false
declared_no_hole true n l = refl
declared_no_hole false n l = refl

-- where a node is no hole, what is among its local and those of its parts is among its own
whole_within : (b : Bool) (xs ns : List ℕ) → b ≡ false → Within xs ns → Within (if b then [] else xs) ns
whole_within true xs ns e h = absurd cc
whole_within false xs ns e h = h

new_within : (a : Bool) (p : Typed TypeTree) → Within (locals a p) (new_in p)
new_within a (typed (form.New n) i j l ps) =
    whole_within (is_hole a (form.New n) l) (n ∷ all_locals (is_inside a (form.New n) l) ps) (n ∷ []) (new_no_hole a n l) (has_own n (all_locals (is_inside a (form.New n) l) ps), tt)
new_within a (typed (form.Declared n) i j l ps) =
    whole_within (is_hole a (form.Declared n) l) (n ∷ all_locals (is_inside a (form.Declared n) l) ps) (n ∷ []) (declared_no_hole a n l) (has_own n (all_locals (is_inside a (form.Declared n) l) ps), tt)
new_within a (typed f i j l ps) = tt

among_within : (a : Bool) (ps : Typeds TypeTree) → Within (all_locals a ps) (names_among ps)
among_within a none = tt
among_within a (more p ps) =
    within_both (locals a p ++ all_locals a ps) (new_in p) (names_among ps) (within_front (locals a p) (all_locals a ps) (new_in p) (new_within a p))
    (within_back (locals a p) (all_locals a ps) (names_among ps) (among_within a ps))
among_within a (skip ps) = among_within a ps

-- ---- nodes that hold names are no holes

differ : false ≡ true → ⊥
differ e = cc

names_no_hole : (f : Form) (l : Label TypeTree) → holds_names f ≡ true → is_hole false f l ≡ false
names_no_hole (form.Define n) l e = refl
names_no_hole form.Constants l e = refl
names_no_hole form.TypeNames l e = refl
names_no_hole f l e = absurd (differ e)

-- a declaration of variables is no hole
specifications_no_hole : (f : Form) (l : Label TypeTree) → holds_specifications f ≡ true → is_hole false f l ≡ false
specifications_no_hole form.Variables l e = refl
specifications_no_hole f l e = absurd (differ e)

-- nor is what is no constant expression
plain_no_hole : (a c v : Bool) → c ≡ false → (not a && c && not v) ≡ false
plain_no_hole true c v e = refl
plain_no_hole false true v e = absurd (differ (sym e))
plain_no_hole false false v e = refl

specified_within : (a : Bool) (ps : Typeds TypeTree) → ArePlain ps → Within (all_locals a ps) (names_specified ps)
specified_within a none h = tt
specified_within a (more (typed f i j l qs) ps) h =
    let p : Typed TypeTree = typed f i j l qs in
    let own : List ℕ = all_locals (is_inside a f l) qs in
    let mine : Within (locals a p) (names_among qs) =
    whole_within (is_hole a f l) (option_to_list (local_of f) ++ own) (names_among qs) (plain_no_hole a (is_constant_expression f l) l.varies h.0)
    (within_back (option_to_list (local_of f)) own (names_among qs) (among_within (is_inside a f l) qs)) in
    within_both (locals a p ++ all_locals a ps) (names_among qs) (names_specified ps) (within_front (locals a p) (all_locals a ps) (names_among qs) mine)
    (within_back (locals a p) (all_locals a ps) (names_specified ps) (specified_within a ps h.1))
specified_within a (skip ps) h = specified_within a ps h

-- ---- statements

module _ (f : Form) (i j : ℕ) (l : Label TypeTree) (qs : Typeds TypeTree) where
  abbrev own : List ℕ
  own = all_locals (is_inside false f l) qs

  -- what is among the locals of the parts of a node that is no hole
  inner : (ns : List ℕ) → is_hole false f l ≡ false → Within own ns → Within (locals false (typed f i j l qs)) ns
  inner ns e h = whole_within (is_hole false f l) (option_to_list (local_of f) ++ own) ns e (within_back (option_to_list (local_of f)) own ns h)

  names_within : (b : Bool) → holds_names f ≡ b → Within (locals false (typed f i j l qs)) (if b then names_among qs else [])
  names_within true e = inner (names_among qs) (names_no_hole f l e) (among_within (is_inside false f l) qs)
  names_within false e = tt

  statement_within : (b : Bool) → holds_specifications f ≡ b → (b ≡ true → ArePlain qs) → Within (locals false (typed f i j l qs)) (if b then names_specified qs else (if holds_names f then names_among qs else []))
  statement_within true e h = inner (names_specified qs) (specifications_no_hole f l e) (specified_within (is_inside false f l) qs (h refl))
  statement_within false e h = names_within (holds_names f) refl

declared_within : (ps : Typeds TypeTree) → SpecificationsArePlain ps → Within (all_locals false ps) (names_declared ps)
declared_within none h = tt
declared_within (more (typed f i j l qs) ps) h =
    let p : Typed TypeTree = typed f i j l qs in
    within_both (locals false p ++ all_locals false ps) (names_of p) (names_declared ps)
    (within_front (locals false p) (all_locals false ps) (names_of p) (statement_within f i j l qs (holds_specifications f) refl h.0))
    (within_back (locals false p) (all_locals false ps) (names_declared ps) (declared_within ps h.1))
declared_within (skip ps) h = declared_within ps h

pub declared_named : DeclaredLocalsAreNamed
declared_named ms t h = where_have (λ n. has (all_locals false t.statements) n ≡ true) t.locals (is_needed ms t) (declared_names t) (declared_within t.statements h)
