-- Entries of parameters and of results have types.
use Rattle.std.proofs.Common.{◌≡◌, Bool, true, false, cond, [], ◌∷◌, ◌++◌, List, Option, Some, None, refl, sym, ap, ◌∙◌, true≢false}
use Rattle.std.specs.Prelude.{◌&&◌, ◌||◌, is_some}
use Rattle.go_grammar.specs.declared.kind.Category.TheVariants as category
use Rattle.go_grammar.specs.declared.kind.Kind.TheVariants as kind
use Rattle.go_grammar.specs.Grammar.{is_name, are_types, are_entries, ends_from, ends_named}
use Rattle.go_grammar.specs.Grammar as grammar
use Rattle.go_grammar.specs.Rules.{Many, Lines}
use Rattle.go_grammar.specs.Trees.{node, Trees, none, more, skip, kind_of}
use Rattle.go_tokens.specs.declared.token.TokenKind.{TokenKind}
use Rattle.go_types.specs.Trees.{TypeTree}
use Rattle.go_typed.specs.declared.form.Form.{Form}
use Rattle.go_typed.specs.declared.form.Form.TheVariants as form
use Rattle.go_typed.specs.Trees.{sort_of, form_of, parts_of, list_of}
use Rattle.go_typed.specs.Trees as sort
use Rattle.go_exprs_rules.specs.Scopes.{Scope, Hint, declares}
use Rattle.go_exprs_rules.specs.Settling.{Part}
use Rattle.go_exprs_rules.specs.Sorts.{Stands}
use Rattle.go_exprs_rules.specs.Tables.{Parts, as_type_place, parameter_told, is_held, is_type}
use Rattle.go_exprs_rules.specs.TypeNodes.{is_parameter, is_result_list, entry_type, entry_of, first_entry, entry_types, with_front, all_types, part_type, second}
use Rattle.go_exprs_rules.specs.Typing.{typing}
use Rattle.go_stmts_final_types.specs.Names.{Standing}
use Rattle.go_stmts_final_types.specs.Shapes.{AreShaped}
use Rattle.go_stmts_final_types.proofs.Facts.{Facts, is_typing, is_declaring, type_asked}
use Rattle.go_stmts_final_types.proofs.Nodes.{and_first, and_second}
use Rattle.go_stmts_final_types.proofs.Typing.{typing_fine, behind}

-- ---- one entry

entry_type_some : (x : Stands) → is_type x ≡ true → (next : Option TypeTree) → is_some (entry_type x next) ≡ true
entry_type_some (sort.IsType t) e next = refl
entry_type_some x e next = cc

entry_is : (x : Part) → is_parameter (form_of x) ≡ false → (next : Option TypeTree) → entry_of x next ≡ entry_type (sort_of x) next
entry_is x e next = ap (λ b. cond b (part_type (second (list_of (parts_of x)))) (entry_type (sort_of x) next)) e

pub entry_some : (x : Part) → is_parameter (form_of x) ≡ false → is_type (sort_of x) ≡ true → (next : Option TypeTree) → is_some (entry_of x next) ≡ true
entry_some x e t next = ap is_some (entry_is x e next) ∙ entry_type_some (sort_of x) t next

pub entry_next : (x : Part) → is_parameter (form_of x) ≡ false → sort_of x ≡ sort.Nothing → (next : Option TypeTree) → entry_of x next ≡ next
entry_next x e t next = entry_is x e next ∙ ap (λ z. entry_type z next) t

pub plain_parameter : (f : Form) → is_held f ≡ false → is_parameter f ≡ false
plain_parameter (form.Held k) e = cc
plain_parameter f e = refl

pub plain_results : (f : Form) → is_held f ≡ false → is_result_list f ≡ false
plain_results (form.Held k) e = cc
plain_results f e = refl

front_some : (o : Option TypeTree) (os : Option (List TypeTree)) → is_some o ≡ true → is_some os ≡ true → is_some (with_front o os) ≡ true
front_some (Some t) (Some ts) e f = refl
front_some (Some t) None e f = cc
front_some None os e f = cc

pub one_some : (o : Option TypeTree) → is_some o ≡ true → is_some (all_types (o ∷ [])) ≡ true
one_some (Some t) e = refl
one_some None e = cc

-- ---- rows

module _ (r : Standing) (s : Scope) (h : Hint) (ws : List TokenKind) (a b : TokenKind) where
  -- entries without names
  types_some : (all : Trees) (pre : Parts) (ps : Trees) → ends_named all ≡ false → Facts r s kind.Parameters h all pre ps (Many ws (Lines false category.Entry a b)) → is_some (all_types (entry_types (behind s kind.Parameters h all pre ps))) ≡ true
  types_some all pre none n f = refl
  types_some all pre (more q ps) n f =
      let g = parameter_told h all (kind_of q) in
      let x = typing s g q in
      let told_ : is_typing g ≡ true = ap (λ z. is_typing (cond z (cond (is_name (kind_of q)) declares h) (as_type_place h))) n ∙ type_asked h in
      front_some (entry_of x (first_entry (entry_types (behind s kind.Parameters h all (pre ++ Some x ∷ []) ps)))) (all_types (entry_types (behind s kind.Parameters h all (pre ++ Some x ∷ []) ps)))
      (f.0.typed told_ (first_entry (entry_types (behind s kind.Parameters h all (pre ++ Some x ∷ []) ps)))) (types_some all (pre ++ Some x ∷ []) ps n f.1)
  types_some all pre (skip ps) n f = types_some all (pre ++ None ∷ []) ps n f

  -- entries of which the last one has a name and a type
  abbrev Named : Bool → Parts → Type 0
  Named e xs = (is_some (all_types (entry_types xs)) ≡ true) × (e ≡ false → is_some (first_entry (entry_types xs)) ≡ true)

  named_front : (e : Bool) (x : Part) (xs : Parts) → is_some (entry_of x (first_entry (entry_types xs))) ≡ true → is_some (all_types (entry_types xs)) ≡ true → Named e (Some x ∷ xs)
  named_front e x xs m n = (front_some (entry_of x (first_entry (entry_types xs))) (all_types (entry_types xs)) m n, λ z. m)

  named_some : (all : Trees) → ends_named all ≡ true → is_typing h ≡ true → (e : Bool) (pre : Parts) (ps : Trees) → ends_from e ps ≡ true → are_entries ps ≡ true → Facts r s kind.Parameters h all pre ps (Many ws (Lines false category.Entry a b))
      → Named e (behind s kind.Parameters h all pre ps)
  named_some all n t e pre none m k f = (refl, λ z. absurd (true≢false (sym m ∙ z)))
  named_some all n t e pre (skip ps) m k f = cc
  named_some all n t e pre (more (node kind.Name i j qs) ps) m k f =
      let g = parameter_told h all kind.Name in
      let x = typing s g (node kind.Name i j qs) in
      let xs = behind s kind.Parameters h all (pre ++ Some x ∷ []) ps in
      let told_ : is_declaring g ≡ true = ap (λ z. is_declaring (cond z declares (as_type_place h))) n in
      let c = named_some all n t false (pre ++ Some x ∷ []) ps m k f.1 in
      named_front e x xs (ap is_some (f.0.named told_ refl (first_entry (entry_types xs))) ∙ c.1 refl) c.0
  named_some all n t e pre (more (node kind.Parameter i j qs) ps) m k f =
      let g = parameter_told h all kind.Parameter in
      let x = typing s g (node kind.Parameter i j qs) in
      let xs = behind s kind.Parameters h all (pre ++ Some x ∷ []) ps in
      let told_ : is_typing g ≡ true = ap (λ z. is_typing (cond z h (as_type_place h))) n ∙ t in
      let c = named_some all n t true (pre ++ Some x ∷ []) ps m k f.1 in
      named_front e x xs (f.0.typed told_ (first_entry (entry_types xs))) c.0
  named_some all n t e pre (more (node l i j qs) ps) m k f = cc

  types_unnamed : (e : Bool) (ps : Trees) → e ≡ false → are_types ps ≡ true → ends_from e ps ≡ false
  types_unnamed e none z k = z
  types_unnamed e (more q ps) z k = let c = and_first (cond (grammar.is_parameter (kind_of q)) false true) (are_types ps) k in types_unnamed (grammar.is_parameter (kind_of q)) ps (by (grammar.is_parameter (kind_of q)) c) (and_second (cond (grammar.is_parameter (kind_of q)) false true) (are_types ps) k)
    where
      by : (d : Bool) → cond d false true ≡ true → d ≡ false
      by true e = cc
      by false e = refl
  types_unnamed e (skip ps) z k = cc

  pub parameters_some : (ps : Trees) → (are_types ps || (ends_named ps && are_entries ps)) ≡ true → is_typing h ≡ true → Facts r s kind.Parameters h ps [] ps (Many ws (Lines false category.Entry a b))
      → is_some (all_types (entry_types (behind s kind.Parameters h ps [] ps))) ≡ true
  parameters_some ps g t f = by (ends_named ps) refl
    where
      entries : (d e : Bool) → are_types ps ≡ d → ends_named ps ≡ true → (d || (ends_named ps && e)) ≡ true → e ≡ true
      entries true e m n g = absurd (true≢false (sym n ∙ types_unnamed false ps refl m))
      entries false e m n g = and_second (ends_named ps) e g

      by : (d : Bool) → ends_named ps ≡ d → is_some (all_types (entry_types (behind s kind.Parameters h ps [] ps))) ≡ true
      by true n = (named_some ps n t false [] ps n (entries (are_types ps) (are_entries ps) refl n g) f).0
      by false n = types_some ps [] ps n f

  -- results
  pub results_some : (all : Trees) (pre : Parts) (ps : Trees) → AreShaped (Many ws (Lines false category.Type a b)) ps → Facts r s kind.Results h all pre ps (Many ws (Lines false category.Type a b))
      → is_some (all_types (entry_types (behind s kind.Results h all pre ps))) ≡ true
  results_some all pre none w f = refl
  results_some all pre (more q ps) w f =
      let x = typing s (as_type_place h) q in
      let xs = behind s kind.Results h all (pre ++ Some x ∷ []) ps in
      let plain = plain_parameter (form_of x) (typing_fine s (as_type_place h) category.Type q w.0).plain in
      front_some (entry_of x (first_entry (entry_types xs))) (all_types (entry_types xs)) (entry_some x plain (f.0.1 (type_asked h)) (first_entry (entry_types xs))) (results_some all (pre ++ Some x ∷ []) ps w.1 f.1)
  results_some all pre (skip ps) w f = elim w [ ]
