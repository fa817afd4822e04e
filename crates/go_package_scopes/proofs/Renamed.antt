-- Under other numbers of declared types a function has the same shape, and names the same locals.
use Rattle.std.proofs.Common.{◌≡◌, ◌∙◌, inl, inr, ℕ, zero, suc, refl, ap}
use Rattle.go_types.specs.Trees.{TypeTree}
use Rattle.go_typed.specs.declared.form.Form.TheVariants as form
use Rattle.go_typed.specs.Trees.{Sort, Typed, typed, Typeds, form_of, sort_mapped, mapped, all_mapped}
use Rattle.go_typed.specs.Trees as trees
use Rattle.go_stmts_scopes.specs.Runs.{IsExpression, AreExpressions, is_given}
use Rattle.go_stmts_scopes.specs.Shapes.{IsName, AreNames, IsPost, IsFirst, is_tail, IsStatement, AreStatements, IsBranch, IsChoice, IsElse, IsSwitch, HasTag, AreClauses, IsClause, IsCase, IsLoop, HasCondition, HasPost}
use Rattle.go_stmts_scopes.specs.Shapes.{HasBody, IsRange, IsFunction}
use Rattle.go_package_scopes.specs.Functions.{EachName, EachNames}

module _ (g : TypeTree → TypeTree) where
  given_same : (s : Sort TypeTree) → is_given (sort_mapped g s) ≡ is_given s
  given_same (trees.Constant t c) = refl
  given_same (trees.OpenConstant c) = refl
  given_same s = refl

  form_same : (x : Typed TypeTree) → form_of (mapped g x) ≡ form_of x
  form_same (typed f i j l ps) = refl

  mutual
    expression : (x : Typed TypeTree) → IsExpression x → IsExpression (mapped g x)
    expression (typed f i j l ps) (inl e) = inl e
    expression (typed f i j l ps) (inr e) = inr (e.0, expressions ps e.1)

    expressions : (ps : Typeds TypeTree) → AreExpressions ps → AreExpressions (all_mapped g ps)
    expressions trees.none e = tt
    expressions (trees.more p ps) e = (expression p e.0, expressions ps e.1)
    expressions (trees.skip ps) e = expressions ps e

  name : (x : Typed TypeTree) → IsName x → IsName (mapped g x)
  name (typed (form.New k) i j l ps) e = given_same l.sort ∙ e
  name (typed (form.Declared k) i j l ps) e = given_same l.sort ∙ e
  name (typed f i j l ps) e = expression (typed f i j l ps) e

  names : (n : ℕ) (ps : Typeds TypeTree) → AreNames n ps → AreNames n (all_mapped g ps)
  names zero ps e = expressions ps e
  names (suc n) trees.none e = absurd e
  names (suc n) (trees.more p ps) e = (name p e.0, names n ps e.1)
  names (suc n) (trees.skip ps) e = absurd e

  post : (x : Typed TypeTree) → IsPost x → IsPost (mapped g x)
  post (typed f i j l ps) e = (ap (sort_mapped g) e.0, e.1, expressions ps e.2)

  first : (x : Typed TypeTree) → IsFirst x → IsFirst (mapped g x)
  first (typed (form.Define n) i j l ps) e = (ap (sort_mapped g) e.0, names n ps e.1)
  first (typed f i j l ps) e = post (typed f i j l ps) e

  mutual
    statement : (x : Typed TypeTree) → IsStatement x → IsStatement (mapped g x)
    statement (typed form.Expression i j l ps) e = (ap (sort_mapped g) e.0, expressions ps e.1)
    statement (typed (form.Step o) i j l ps) e = (ap (sort_mapped g) e.0, expressions ps e.1)
    statement (typed (form.Assign n) i j l ps) e = (ap (sort_mapped g) e.0, expressions ps e.1)
    statement (typed (form.Operate o) i j l ps) e = (ap (sort_mapped g) e.0, expressions ps e.1)
    statement (typed form.Return i j l ps) e = (ap (sort_mapped g) e.0, expressions ps e.1)
    statement (typed (form.Define n) i j l ps) e = (ap (sort_mapped g) e.0, names n ps e.1)
    statement (typed (form.Specified n) i j l ps) e = (ap (sort_mapped g) e.0, names n ps e.1)
    statement (typed form.Variables i j l ps) e = (ap (sort_mapped g) e.0, statements ps e.1)
    statement (typed form.Constants i j l ps) e = ap (sort_mapped g) e
    statement (typed form.TypeNames i j l ps) e = ap (sort_mapped g) e
    statement (typed form.Break i j l ps) e = ap (sort_mapped g) e
    statement (typed form.Continue i j l ps) e = ap (sort_mapped g) e
    statement (typed form.Fallthrough i j l ps) e = ap (sort_mapped g) e
    statement (typed form.Block i j l ps) e = (ap (sort_mapped g) e.0, statements ps e.1)
    statement (typed form.If i j l ps) e = (ap (sort_mapped g) e.0, branch ps e.1)
    statement (typed form.Switch i j l ps) e = (ap (sort_mapped g) e.0, switch ps e.1)
    statement (typed form.For i j l ps) e = (ap (sort_mapped g) e.0, loop ps e.1)
    statement (typed (form.Range d n) i j l ps) e = (ap (sort_mapped g) e.0, range n ps e.1)
    statement (typed f i j l ps) e = absurd e

    statements : (ps : Typeds TypeTree) → AreStatements ps → AreStatements (all_mapped g ps)
    statements trees.none e = tt
    statements (trees.more p ps) e = (statement p e.0, statements ps e.1)
    statements (trees.skip ps) e = statements ps e

    branch : (ps : Typeds TypeTree) → IsBranch ps → IsBranch (all_mapped g ps)
    branch trees.none e = absurd e
    branch (trees.more p ps) e = (first p e.0, choice ps e.1)
    branch (trees.skip ps) e = choice ps e

    choice : (ps : Typeds TypeTree) → IsChoice ps → IsChoice (all_mapped g ps)
    choice (trees.more c (trees.more b rs)) e = (expression c e.0, (ap is_tail (form_same b) ∙ e.1.0, statement b e.1.1), otherwise rs e.2)
    choice trees.none e = absurd e
    choice (trees.skip ps) e = absurd e
    choice (trees.more c trees.none) e = absurd e
    choice (trees.more c (trees.skip ps)) e = absurd e

    otherwise : (ps : Typeds TypeTree) → IsElse ps → IsElse (all_mapped g ps)
    otherwise trees.none e = tt
    otherwise (trees.more p ps) e = (ap is_tail (form_same p) ∙ e.0, statement p e.1)
    otherwise (trees.skip ps) e = tt

    switch : (ps : Typeds TypeTree) → IsSwitch ps → IsSwitch (all_mapped g ps)
    switch trees.none e = absurd e
    switch (trees.more p ps) e = (first p e.0, tag ps e.1)
    switch (trees.skip ps) e = tag ps e

    tag : (ps : Typeds TypeTree) → HasTag ps → HasTag (all_mapped g ps)
    tag trees.none e = absurd e
    tag (trees.more p ps) e = (expression p e.0, clauses ps e.1)
    tag (trees.skip ps) e = clauses ps e

    clauses : (ps : Typeds TypeTree) → AreClauses ps → AreClauses (all_mapped g ps)
    clauses trees.none e = tt
    clauses (trees.more p ps) e = (clause p e.0, clauses ps e.1)
    clauses (trees.skip ps) e = absurd e

    clause : (x : Typed TypeTree) → IsClause x → IsClause (mapped g x)
    clause (typed (form.Case n) i j l ps) e = (ap (sort_mapped g) e.0, case n ps e.1)
    clause (typed form.Default i j l ps) e = (ap (sort_mapped g) e.0, statements ps e.1)
    clause (typed f i j l ps) e = absurd e

    case : (n : ℕ) (ps : Typeds TypeTree) → IsCase n ps → IsCase n (all_mapped g ps)
    case zero trees.none e = tt
    case zero (trees.more p ps) e = (statement p e.0, statements ps e.1)
    case zero (trees.skip ps) e = statements ps e
    case (suc n) trees.none e = absurd e
    case (suc n) (trees.more p ps) e = (expression p e.0, case n ps e.1)
    case (suc n) (trees.skip ps) e = absurd e

    loop : (ps : Typeds TypeTree) → IsLoop ps → IsLoop (all_mapped g ps)
    loop trees.none e = absurd e
    loop (trees.more p ps) e = (first p e.0, condition ps e.1)
    loop (trees.skip ps) e = condition ps e

    condition : (ps : Typeds TypeTree) → HasCondition ps → HasCondition (all_mapped g ps)
    condition trees.none e = absurd e
    condition (trees.more p ps) e = (expression p e.0, next ps e.1)
    condition (trees.skip ps) e = next ps e

    next : (ps : Typeds TypeTree) → HasPost ps → HasPost (all_mapped g ps)
    next trees.none e = absurd e
    next (trees.more p ps) e = (post p e.0, body ps e.1)
    next (trees.skip ps) e = body ps e

    body : (ps : Typeds TypeTree) → HasBody ps → HasBody (all_mapped g ps)
    body (trees.more b trees.none) e = (ap is_tail (form_same b) ∙ e.0, statement b e.1)
    body trees.none e = absurd e
    body (trees.skip ps) e = absurd e
    body (trees.more b (trees.more p ps)) e = absurd e
    body (trees.more b (trees.skip ps)) e = absurd e

    range : (n : ℕ) (ps : Typeds TypeTree) → IsRange n ps → IsRange n (all_mapped g ps)
    range zero (trees.more p ps) e = (expression p e.0, body ps e.1)
    range (suc n) (trees.more p ps) e = (name p e.0, range n ps e.1)
    range zero trees.none e = absurd e
    range zero (trees.skip ps) e = absurd e
    range (suc n) trees.none e = absurd e
    range (suc n) (trees.skip ps) e = absurd e

  pub function : (x : Typed TypeTree) → IsFunction x → IsFunction (mapped g x)
  function (typed form.Function i j l ps) e = (ap (sort_mapped g) e.0, statements ps e.1)
  function (typed f i j l ps) e = absurd e

  mutual
    pub each_name : (Q : ℕ → ℕ → Type 0) (x : Typed TypeTree) → EachName Q x → EachName Q (mapped g x)
    each_name Q (typed f i j l ps) e = (e.0, each_names Q ps e.1)

    each_names : (Q : ℕ → ℕ → Type 0) (ps : Typeds TypeTree) → EachNames Q ps → EachNames Q (all_mapped g ps)
    each_names Q trees.none e = tt
    each_names Q (trees.more p ps) e = (each_name Q p e.0, each_names Q ps e.1)
    each_names Q (trees.skip ps) e = each_names Q ps e
