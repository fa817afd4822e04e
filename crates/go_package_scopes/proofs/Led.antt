-- The branches of the functions of a package that type-checks lead somewhere.
use Rattle.std.proofs.Common.{◌≡◌, ℕ, suc, Bool, true, false, List, [], ◌∷◌, ◌++◌, map, Option, Some, None, refl, sym, ap, subst}
use Rattle.std.specs.Prelude.{if◌then◌else◌}
use Rattle.go_base.specs.declared.bytes.FileText.{FileText}
use Rattle.go_base.specs.declared.fault.FaultCode.{FaultCode}
use Rattle.go_base.specs.declared.fault.FaultCode.TheVariants as code
use Rattle.go_grammar.specs.declared.kind.Category.TheVariants as category
use Rattle.go_grammar.specs.declared.kind.Kind.TheVariants as kind
use Rattle.go_grammar.specs.Trees.{Tree, node, Trees, none, more, skip, last}
use Rattle.go_tokens.specs.Tokens.{kinds}
use Rattle.go_tree.specs.declared.context.Entity.TheVariants as entity
use Rattle.go_tree.specs.Branches.{misplaced, branches, limit}
use Rattle.go_tree.specs.Constants.{hidden_lists}
use Rattle.go_tree.specs.Contexts.{file_context}
use Rattle.go_tree.specs.Declarations.{Found}
use Rattle.go_tree.specs.Declarations as names
use Rattle.go_tree.specs.Duplicates.{duplicates}
use Rattle.go_tree.specs.Failures.{Failure, failing, of_files, is_earlier, earlier, least_from, least, or_else}
use Rattle.go_tree.specs.Faults.{clause_faults, lookup_faults, unused_faults, placed_faults, cycle_faults, name_faults_by, name_faults, reported}
use Rattle.go_tree.specs.File.{FileTree}
use Rattle.go_tree.specs.Lookups.{Asked, asked_from}
use Rattle.go_tree.specs.Meanings.{meanings}
use Rattle.go_tree.specs.Redeclared.{redeclared}
use Rattle.go_tree.specs.Units.{Unit as File, Place}
use Rattle.go_types_relations.specs.Renaming.{renamed}
use Rattle.go_typed.specs.Contents.{FuncContent, content, func_renamed}
use Rattle.go_typed.specs.Packages.{PackageView}
use Rattle.go_exprs_rules.specs.Scopes.{free}
use Rattle.go_stmts_defs.specs.Bodies.{based, start}
use Rattle.go_package_defs.specs.Answer.{specifications}
use Rattle.go_package_defs.specs.Bodies.{based_tree, scope_of, portion_of, those_of}
use Rattle.go_package_defs.specs.Checked.{texts_of, AreRead, IsCheckedPackage}
use Rattle.go_package_defs.specs.Declarations.{Specification, declaration, declarations, in_file}
use Rattle.go_package_defs.specs.Sources.{Package, source_of, unit_of, package_of}
use Rattle.go_stmts_scopes.specs.Standing.{no_exits}
use Rattle.go_package_scopes.specs.Functions.{BranchesStand, HaveBranches}
use Rattle.go_package_scopes.proofs.Branches.{reading_stands, mapped_stands}
use Rattle.go_package_scopes.proofs.BranchTrees.{BranchesLead, AllBranchesLead, based_leads, branches_lead}
use Rattle.go_package_scopes.proofs.Results.{AllHave, EachOf, Gives, checked_names, checked_read}
use Rattle.go_package_scopes.proofs.Trees.{IsAlwaysShaped, HasFunctionTree, AreDerived, all_functions, those_append, declared_none}

-- ---- the least of no failures

earlier_there : (f g : Failure) → (h : Failure) × (earlier (Some f) g ≡ Some h)
earlier_there f g = by (is_earlier g f)
  where
    by : (b : Bool) → (h : Failure) × ((if b then Some g else Some f) ≡ Some h)
    by true = (g, refl)
    by false = (f, refl)

some_least : (f : Failure) (fs : List Failure) → least_from (Some f) fs ≡ None → ⊥
some_least f [] e = cc
some_least f (g ∷ gs) e = let h = earlier_there f g in some_least h.0 gs (subst (λ o. least_from o gs ≡ None) h.1 e)

least_none : (fs : List Failure) → least fs ≡ None → fs ≡ []
least_none [] e = refl
least_none (f ∷ fs) e = absurd (some_least f fs e)

front_none : {A : Type 0} (xs ys : List A) → xs ++ ys ≡ [] → xs ≡ []
front_none [] ys e = refl
front_none (x ∷ xs) ys e = cc

behind_none : {A : Type 0} (xs ys : List A) → xs ++ ys ≡ [] → ys ≡ []
behind_none [] ys e = e
behind_none (x ∷ xs) ys e = cc

else_none : (o p : Option Failure) → or_else o p ≡ None → p ≡ None
else_none None p e = e
else_none (Some f) p e = absurd (let z : Some f ≡ None = e in cc)

failing_none : (c : FaultCode) (ps : List Place) → failing c ps ≡ [] → ps ≡ []
failing_none c [] e = refl
failing_none c (p ∷ ps) e = cc

branches_none : (us : List File) (ds : List Found) (asks : List Asked) → name_faults_by us ds asks ≡ [] → branches us ≡ []
branches_none us ds asks e =
    let front : List Failure = failing code.Redeclared (redeclared us ds) ++ lookup_faults asks ++ unused_faults us ds asks in
    let placed : placed_faults us ≡ [] = behind_none front (placed_faults us) (front_none (front ++ placed_faults us) (cycle_faults ds asks) e) in
    let b : List Failure = failing code.Branch (branches us) in
    let d : List Failure = failing code.Duplicate (duplicates us) in
    let l : List Failure = failing code.Limit (limit us) in
    failing_none code.Branch (branches us) (front_none b d (front_none (b ++ d) l (front_none (b ++ d ++ l) (failing code.Outside (hidden_lists us)) placed)))

none_misplaced : (us : List File) → reported us ≡ None → branches us ≡ []
none_misplaced us e = branches_none us (names.declarations us) (asked_from (meanings us) 0 us) (least_none (name_faults us) (else_none (least (clause_faults us)) (least (name_faults us)) e))

-- ---- declarations

abbrev LeadsThere : Option Tree → Type 0
LeadsThere None = Unit {0}
LeadsThere (Some t) = BranchesLead no_exits t

abbrev Leads : Specification → Type 0
Leads d = LeadsThere d.tree

each_append : (ds es : List Specification) → EachOf Leads ds → EachOf Leads es → EachOf Leads (ds ++ es)
each_append [] es h g = g
each_append (d ∷ ds) es h g = (h.0, each_append ds es h.1 g)

both_lead : (ds es : List Specification) → EachOf Leads (those_of entity.Function ds) → EachOf Leads (those_of entity.Function es) → EachOf Leads (those_of entity.Function (ds ++ es))
both_lead ds es h g = subst (EachOf Leads) (sym (those_append ds es)) (each_append (those_of entity.Function ds) (those_of entity.Function es) h g)

one_leads : (n : ℕ) (p : Tree) → BranchesLead no_exits p → EachOf Leads (those_of entity.Function (declaration n p))
one_leads n (node (kind.Declaration s) i j ps) h = subst (EachOf Leads) (sym (declared_none n s ps)) tt
one_leads n (node kind.FunctionDeclaration i j ps) h = (h, tt)
one_leads n (node k i j ps) h = tt

all_lead : (n : ℕ) (ps : Trees) → AllBranchesLead no_exits ps → EachOf Leads (those_of entity.Function (declarations n ps))
all_lead n none h = tt
all_lead n (more p ps) h = both_lead (declaration n p) (declarations n ps) (one_leads n p h.0) (all_lead n ps h.1)
all_lead n (skip ps) h = all_lead n ps h

file_leads : (n : ℕ) (t : Tree) → IsAlwaysShaped category.File t → BranchesLead no_exits t → EachOf Leads (those_of entity.Function (in_file n t))
file_leads n (node kind.File i j ps) w h = all_lead n ps h.1
file_leads n (node k i j ps) w h = let e = (w 0).0 in cc

never : {A : Type 0} → false ≡ true → A
never e = absurd cc

all_files : AreDerived → (m n o : ℕ) (texts : List FileText) (files : List FileTree) → AreRead m texts files → of_files misplaced o (map unit_of (map source_of files)) ≡ []
    → EachOf Leads (those_of entity.Function (specifications n (map source_of files)))
all_files g m n o [] [] r e = tt
all_files g m n o [] (f ∷ fs) r e = absurd r
all_files g m n o (x ∷ xs) [] r e = absurd r
all_files g m n o (x ∷ xs) (f ∷ fs) r e =
    let s = source_of f in
    let u = unit_of s in
    let own = front_none (misplaced o u.tokens u.events) (of_files misplaced (suc o) (map unit_of (map source_of fs))) e in
    let rest = behind_none (misplaced o u.tokens u.events) (of_files misplaced (suc o) (map unit_of (map source_of fs))) e in
    let lead : BranchesLead no_exits s.tree =
    branches_lead o u.tokens no_exits (file_context (last s.tree)) s.tree (record { breaks = λ z. never z; continues = λ z. never z; followed = λ z. never z; falls = λ z. never z }) own in
    both_lead (in_file n s.tree) (specifications (suc n) (map source_of fs)) (file_leads n s.tree (λ b. g (kinds f.tokens.tokens) category.File b s.tree r.0.tree.derives) lead) (all_files g (suc m) (suc n) (suc o) xs fs r.1 rest)

-- ---- packages

abbrev HasBranches : FuncContent → Type 0
HasBranches f = BranchesStand no_exits f.tree

gives_branches : (p : Package) (d : Specification) → HasFunctionTree d → Leads d → Gives p HasBranches d
gives_branches p d h l = (
  based d.first (node kind.FunctionDeclaration h.first h.last h.parts),
  ap (based_tree d.first) h.tree,
  λ f r. let t : Tree = node kind.FunctionDeclaration h.first h.last h.parts in
      subst (BranchesStand no_exits) r.is (reading_stands no_exits (start (scope_of r.around r.rights (portion_of p d)) r.count r.types) free (based d.first t) (based_leads d.first no_exits t (subst LeadsThere h.tree l))),
)

all_give : (p : Package) (ds : List Specification) → EachOf HasFunctionTree ds → EachOf Leads ds → EachOf (Gives p HasBranches) ds
all_give p [] h l = tt
all_give p (d ∷ ds) h l = (gives_branches p d h.0 l.0, all_give p ds h.1 l.1)

renamed_branches : (name : ℕ → ℕ) (fs : List FuncContent) → AllHave HasBranches fs → HaveBranches (map (func_renamed name) fs)
renamed_branches name [] h = tt
renamed_branches name (f ∷ fs) h = (mapped_stands (renamed name) no_exits f.tree h.0, renamed_branches name fs h.1)

pub package_led : AreDerived → (p : PackageView) → IsCheckedPackage p → HaveBranches (content p).functions
package_led g p h =
    let ss = map source_of h.checked.files in
    let n = checked_names (texts_of p) h.given h.checked in
    let functions = all_functions g 0 0 (texts_of p) h.checked.files h.checked.read in
    let lead = all_files g 0 0 0 (texts_of p) h.checked.files h.checked.read (none_misplaced (map unit_of ss) n.faultless) in
    let all = checked_read (texts_of p) h.given h.checked HasBranches (λ u e. all_give (package_of ss u) (those_of entity.Function (specifications 0 ss)) functions lead) in
    subst HaveBranches (sym h.same.1.functions) (renamed_branches h.same.0 h.given.functions all)
