-- A file's tree tells of its functions in their order, and of no others.
use Rattle.std.proofs.Common.{◌≡◌, ◌∙◌, ℕ, suc, ◌<◌, Bool, true, false, List, [], ◌∷◌, ◌++◌, map, refl, ap, arith}
use Rattle.std.specs.Prelude.{nat_lt, if◌then◌else◌, ◌&&◌}
use Rattle.std.proofs.lemmas.Bool.Decides.{nat_tests}
use Rattle.go_tokens.specs.declared.token.TokenKind.{TokenKind}
use Rattle.go_tokens.specs.declared.token.TokenKind.TheVariants as token
use Rattle.go_grammar.specs.declared.kind.Kind.TheVariants as kind
use Rattle.go_grammar.specs.declared.kind.Place.TheVariants as place
use Rattle.go_grammar.specs.declared.kind.Category.TheVariants as category
use Rattle.go_grammar.specs.Rules.{Each, Many}
use Rattle.go_grammar.specs.Trees.{Tree, node, Trees, none, more, skip, last}
use Rattle.go_grammar.specs.Grammar.{IsFile, rule, Derives, Spells, Goes, ends_named}
use Rattle.go_tree.specs.Views.{part_at}
use Rattle.go_tree.specs.Lists as lists
use Rattle.go_tree.specs.declared.context.Context.{Context}
use Rattle.go_tree.specs.declared.event.Event.{Event}
use Rattle.go_tree.specs.declared.event.Event.TheVariants as event
use Rattle.go_tree.specs.Contexts.{is_there, is_package, file_context, enter}
use Rattle.go_tree.specs.Events.{statement_events, function_events, is_more, pass, begin, events, events_of}
use Rattle.go_tree.specs.Declarations.{is_function}
use Rattle.go_scopes_events.specs.Orders.{EachDeclared}
use Rattle.go_scopes_events.specs.Functions.{functions_told, name_of, function_names}
use Rattle.go_scopes_events.proofs.Rising.{IsLaidOut, derives_laid}
use Rattle.go_scopes_events.proofs.Nesting.{statement_each}
use Rattle.go_scopes_events.proofs.Inside.{IsInner, AreInner, spells_inner, derives_inner, rule_inner, function_rule, NamesOther, IsOther, tree_other, parts_other, true_false}

told_append : (es fs : List Event) → functions_told (es ++ fs) ≡ functions_told es ++ functions_told fs
told_append [] fs = refl
told_append (event.Declaration d ∷ es) fs = ap (λ ns. if is_package d.block && is_function d.entity then d.name ∷ ns else ns) (told_append es fs) ∙ spread (is_package d.block && is_function d.entity) d.name (functions_told es) (functions_told fs)
  where
    spread : (b : Bool) (n : ℕ) (xs ys : List ℕ) → (if b then n ∷ (xs ++ ys) else xs ++ ys) ≡ (if b then n ∷ xs else xs) ++ ys
    spread true n xs ys = refl
    spread false n xs ys = refl
told_append (e ∷ es) fs = told_append es fs

both_false : (a b : Bool) → b ≡ false → a && b ≡ false
both_false true b e = e
both_false false b e = refl

other_told : (es : List Event) → EachDeclared IsOther es → functions_told es ≡ []
other_told [] h = refl
other_told (event.Declaration d ∷ es) h = ap (λ b. if b then d.name ∷ functions_told es else functions_told es) (both_false (is_package d.block) (is_function d.entity) h.0) ∙ other_told es h.1
other_told (e ∷ es) h = other_told es h

-- a function, with nothing but its own declaration to tell
function_told : (c : Context) (i j : ℕ) (ps : Trees) → i < j → AreInner ps → NamesOther c.role → functions_told (events c (node kind.FunctionDeclaration i j ps)) ≡ suc i ∷ []
function_told c i j ps lt x r =
    let inside = events_of (begin c kind.FunctionDeclaration) kind.FunctionDeclaration i j ps 0 ps in
    let own = if nat_lt i j then function_events i j (is_there (part_at ps 1)) else [] in
    told_append (statement_events c.listed i j ++ own) inside
    ∙ ap (λ ns. functions_told (statement_events c.listed i j ++ own) ++ ns) (other_told inside (parts_other (begin c kind.FunctionDeclaration) kind.FunctionDeclaration i j ps 0 ps x r))
    ∙ ap (λ ns. ns ++ []) (told_append (statement_events c.listed i j) own)
    ∙ ap (λ ns. (ns ++ functions_told own) ++ []) (other_told (statement_events c.listed i j) (statement_each IsOther c.listed i j))
    ∙ ap (λ ns. ns ++ []) (by (nat_lt i j) (grind (arith, nat_tests)) (is_there (part_at ps 1)))
  where
    by : (b : Bool) → b ≡ true → (y : Bool) → functions_told (if b then function_events i j y else []) ≡ suc i ∷ []
    by true e true = refl
    by true e false = refl
    by false e y = absurd (true_false false e refl)

-- what a declaration of a file is: a function without others inside, or no function, with none inside
abbrev IsTop : Tree → Type 0
IsTop (node kind.FunctionDeclaration i j ps) = (i < j) × AreInner ps
IsTop (node k i j ps) = IsInner (node k i j ps)

abbrev AreTop : Trees → Type 0
AreTop none = Unit
AreTop (more p ps) = IsTop p × AreTop ps
AreTop (skip ps) = AreTop ps

inner_top : (p : Tree) → IsInner p → IsTop p
inner_top (node kind.FunctionDeclaration i j ps) h = absurd (true_false true refl h.0)
inner_top (node k i j ps) h = h

inner_skipped : (p : Tree) (qs : Trees) → IsInner p → lists.functions (more p qs) ≡ lists.functions qs
inner_skipped (node kind.FunctionDeclaration i j ps) qs h = absurd (true_false true refl h.0)
inner_skipped (node k i j ps) qs h = refl

module _ (ts : List TokenKind) where
  declaration_top : (t : Tree) → Derives ts category.Declaration t → IsLaidOut t → IsTop t
  declaration_top (node kind.FunctionDeclaration i j ps) h l = (l.0, spells_inner ts ps (rule place.Free kind.FunctionDeclaration) i j (function_rule place.Free kind.FunctionDeclaration refl) h.1)
  declaration_top (node (kind.Declaration s) i j ps) h l = (refl, spells_inner ts ps (rule place.Free (kind.Declaration s)) i j (rule_inner place.Free (kind.Declaration s) refl) h.1)
  declaration_top (node k i j ps) h l = absurd (true_false false h.0 refl)

  goes_top : (ps : Trees) (i j : ℕ) → Goes ts (Each category.Declaration (token.Semicolon ∷ []) []) i ps j → AreTop ps
  goes_top none i j h = tt
  goes_top (more p ps) i j h = (declaration_top p h.3 (derives_laid ts p category.Declaration h.3), goes_top ps (last p) j h.4)
  goes_top (skip ps) i j h = absurd h

  many_top : (ps : Trees) (i j : ℕ) → Spells ts (Many [] (Each category.Declaration (token.Semicolon ∷ []) [])) i ps j → AreTop ps
  many_top none i j h = tt
  many_top (more p ps) i j h = (declaration_top p h.3 (derives_laid ts p category.Declaration h.3), goes_top ps (last p) j h.4)
  many_top (skip ps) i j h = absurd h

part_told : (c : Context) (p : Tree) (qs : Trees) → IsTop p → NamesOther c.role → functions_told (events c p) ++ map name_of (lists.functions qs) ≡ map name_of (lists.functions (more p qs))
part_told c (node kind.FunctionDeclaration i j ps) qs h r = ap (λ ns. ns ++ map name_of (lists.functions qs)) (function_told c i j ps h.0 h.1 r)
part_told c (node k i j ps) qs h r = ap (λ ns. ns ++ map name_of (lists.functions qs)) (other_told (events c (node k i j ps)) (tree_other c (node k i j ps) h r))

parts_told : (c : Context) (i j : ℕ) (ps : Trees) (n : ℕ) (qs : Trees) → AreTop qs → functions_told (events_of c kind.File i j ps n qs) ≡ map name_of (lists.functions qs)
parts_told c i j ps n none h = refl
parts_told c i j ps n (skip qs) h = parts_told c i j ps (suc n) qs h
parts_told c i j ps n (more p qs) h =
    told_append (events (enter c kind.File i j ps (ends_named ps) n p (is_more qs)) p) (events_of (pass c p) kind.File i j ps (suc n) qs)
    ∙ ap (λ ns. functions_told (events (enter c kind.File i j ps (ends_named ps) n p (is_more qs)) p) ++ ns) (parts_told (pass c p) i j ps (suc n) qs h.1)
    ∙ part_told (enter c kind.File i j ps (ends_named ps) n p (is_more qs)) p qs h.0 tt

pub file_told : (ts : List TokenKind) (t : Tree) → IsFile ts t → functions_told (events (file_context (last t)) t) ≡ function_names t
file_told ts (node kind.File i j none) f = absurd f.derives.1
file_told ts (node kind.File i j (skip ps)) f = parts_told (begin (file_context j) kind.File) i j (skip ps) 0 (skip ps) (many_top ts ps f.derives.1.0 j f.derives.1.2)
file_told ts (node kind.File i j (more p ps)) f =
    let inner : IsInner p = derives_inner ts p category.Imports refl f.derives.1.1 in
    parts_told (begin (file_context j) kind.File) i j (more p ps) 0 (more p ps) (inner_top p inner, many_top ts ps (last p) j f.derives.1.2)
    ∙ ap (map name_of) (inner_skipped p ps inner)
file_told ts (node k i j ps) f = absurd (true_false false f.derives.0 refl)
