-- What a function tells whose body has two lists of statements.
use Rattle.std.proofs.Common.{◌≡◌, ◌∙◌, ℕ, suc, ◌<◌, ◌≤◌, Bool, true, false, List, [], ◌∷◌, ◌++◌, refl, sym, ap, subst, append_assoc, arith}
use Rattle.std.specs.Prelude.{if◌then◌else◌, ◌&&◌, not, nat_lt}
use Rattle.go_tokens.specs.declared.token.TokenKind.{TokenKind}
use Rattle.go_grammar.specs.declared.kind.Category.TheVariants as category
use Rattle.go_grammar.specs.declared.kind.Kind.TheVariants as kind
use Rattle.go_grammar.specs.Trees.{Tree, node, Trees, none, more, onto}
use Rattle.go_grammar.specs.Grammar.{Derives, ends_named}
use Rattle.go_tree.specs.declared.context.Block.TheVariants as block
use Rattle.go_tree.specs.declared.context.Context.{Context}
use Rattle.go_tree.specs.declared.event.Event.{Event}
use Rattle.go_tree.specs.declared.event.Event.TheVariants as event
use Rattle.go_tree.specs.Contexts.{is_there, file_context, body_scope, enter}
use Rattle.go_tree.specs.Events.{function_events, declaration_events, is_more, events}
use Rattle.go_tree.specs.Views.{part_at}
use Rattle.go_heads.specs.Functions.{Alone}
use Rattle.go_scopes_events.proofs.Public.{IsLaidOut, derives_laid, lie_order, IsPlain, derives_layered}
use Rattle.go_scopes_bodies.specs.Listed.{list_context, told_list}
use Rattle.extract_names.specs.Sites.{EachEvent}
use Rattle.extract_names_derived.specs.Bodies.{NamedBefore, BodySplits}
use Rattle.extract_names_derived.specs.Functions.{IsDerivedFunction}
use Rattle.extract_names_derived.proofs.Fit.{IsFit, derives_fit}
use Rattle.extract_names_derived.proofs.Functions.{IsFunctionRow, function_row}
use Rattle.extract_names_derived.proofs.Lying.{EventLies, each_event_append, each_event_map}
use Rattle.extract_names_derived.proofs.Whole.{Tells, fit_statements, signature_lies}

-- Two lists tell what each tells.
abbrev pub TellsBoth : Type 0
TellsBoth = (c : Context) (followed : Bool) (xs ys : Trees) → told_list c followed (onto xs ys) ≡ told_list c (followed && not (is_more ys)) xs ++ told_list c followed ys

append_empty : (es : List Event) → es ++ [] ≡ es
append_empty [] = refl
append_empty (e ∷ es) = ap (λ z. e ∷ z) (append_empty es)

named_function : (k i j : ℕ) (x : Bool) → suc i < k → EachEvent (NamedBefore k) (function_events i j x)
named_function k i j true lt = (lt, tt)
named_function k i j false lt = (lt, (tt, tt))

named_declaration : (k i j : ℕ) (ps : Trees) (b : Bool) → suc i < k → EachEvent (NamedBefore k) (if b then function_events i j (is_there (part_at ps 1)) else [])
named_declaration k i j ps true lt = named_function k i j (is_there (part_at ps 1)) lt
named_declaration k i j ps false lt = tt

module _ (i b j : ℕ) (y : Bool) (k : ℕ) (at : b ≤ k) where
  named_event : (x : Event) → EventLies i i b block.Package 0 (body_scope y b j) x → NamedBefore k x
  named_event (event.Declaration d) l = omega (arith, l.name.1, at)
  named_event (event.Use u) l = (omega (arith, l.name.1, at), l.initial)
  named_event (event.Member m g x) l = omega (arith, l.0.1, at)
  named_event (event.Import x) l = tt
  named_event (event.Bodiless x z) l = tt
  named_event (event.Statement x z) l = tt
  named_event (event.Misplaced x z) l = tt
  named_event (event.SecondDefault w) l = tt

module _ (tells : Tells) (both : TellsBoth) (a : Alone) (i j k e : ℕ) (xs ys : Trees) where
  abbrev body : Tree
  body = node kind.Block k e (onto xs ys)

  split_at : (u v : ℕ) (ss : Trees) → a.tree ≡ node kind.FunctionDeclaration i j (more (node kind.Signature u v ss) (more body none)) → IsLaidOut (node kind.FunctionDeclaration i j (more (node kind.Signature u v ss) (more body none)))
      → IsFit (node kind.FunctionDeclaration i j (more (node kind.Signature u v ss) (more body none))) → IsPlain (node kind.Signature u v ss) → BodySplits a k e xs ys
  split_at u v ss same laid fit plain =
      let row : Trees = more (node kind.Signature u v ss) (more body none) in
      let sc : Context = enter (file_context 0) kind.FunctionDeclaration i j row (ends_named row) 0 (node kind.Signature u v ss) true in
      let bc : Context = enter (file_context 0) kind.FunctionDeclaration i j row (ends_named row) 1 body false in
      let c : Context = list_context bc k e in
      let own : List Event = declaration_events i j row in
      let sig : List Event = events sc (node kind.Signature u v ss) in
      let one : events bc body ≡ told_list c false xs ++ told_list c false ys = (tells bc k e (onto xs ys) (fit_statements kind.Block k (onto xs ys) refl fit.1.3.2.1)).block ∙ both c false xs ys in
      let order : v ≤ k = laid.1.2.0 in
      record {
        first_token = i;
        last_token = j;
        signature = node kind.Signature u v ss;
        tree = same;
        head_told = refl;
        head = own ++ sig;
        context = c;
        told =
            ap (λ t. events (file_context 0) t) same
            ∙ ap (λ es. own ++ (sig ++ es)) (append_empty (events bc body) ∙ one)
            ∙ sym (append_assoc own sig (told_list c false xs ++ told_list c false ys));
        before =
            each_event_append (NamedBefore k) own sig (named_declaration k i j row (nat_lt i j) (omega (arith, laid.1.0, laid.1.1.0, order)))
            (each_event_map (EventLies i i v block.Package 0 (body_scope true v j)) (NamedBefore k) sig (named_event i v j true k order)
            (signature_lies i j row (ends_named row) true u v ss laid.1.1 fit.1.2 plain (omega (arith, laid.1.0)) (lie_order v j (more body none) laid.1.2)));
        block = refl;
        end = refl;
        role = refl;
        site = refl;
        specification = refl;
        source = refl;
        group = refl;
        parameters = refl;
        constant = refl;
        initial = refl;
        breaks = refl;
        continues = refl;
        column = refl;
        listed = refl;
        last = refl;
        falls = refl;
      }

  pub body_splits : (ts : List TokenKind) (s : Tree) → a.tree ≡ node kind.FunctionDeclaration i j (more s (more body none)) → IsDerivedFunction ts a → BodySplits a k e xs ys
  body_splits ts s same f = by s same (subst (Derives ts category.Declaration) same f.derives)
    where
      by : (s : Tree) → a.tree ≡ node kind.FunctionDeclaration i j (more s (more body none)) → Derives ts category.Declaration (node kind.FunctionDeclaration i j (more s (more body none))) → BodySplits a k e xs ys
      by (node kind.Signature u v ss) q d =
          let t : Tree = node kind.FunctionDeclaration i j (more (node kind.Signature u v ss) (more body none)) in
          split_at u v ss q (derives_laid ts t category.Declaration d) (derives_fit ts t category.Declaration d) (derives_layered ts t category.Declaration d).0
      by (node l u v ss) q d = absurd (row_out (function_row ts i j (more (node l u v ss) (more body none)) d))
        where
          row_out : IsFunctionRow (more (node l u v ss) (more body none)) → ⊥
          row_out r = r
