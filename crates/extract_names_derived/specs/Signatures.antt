-- The signature and the return of a printed function: what is asked of their names, and what they tell.
use Rattle.std.specs.Prelude.{◌≡◌, ℕ, suc, ◌<◌, ◌≤◌, ◌⊎◌, List, [], ◌∷◌, Some}
use Rattle.go_grammar.specs.Trees.{Trees, last}
use Rattle.go_tree.specs.declared.event.Declaration.{Declaration}
use Rattle.go_tree.specs.declared.event.Event.{Event}
use Rattle.go_tree.specs.declared.object.Object.{Object}
use Rattle.go_heads.specs.Functions.{Alone}
use Rattle.go_heads.specs.Names.{own_text}
use Rattle.go_print_laws.specs.Functions.{returning_trees}
use Rattle.go_print_laws.specs.Headers.{Header, parameters_end, signature_tree}
use Rattle.go_print_laws.specs.Trees.{type_tree}
use Rattle.go_scopes_bodies.specs.Meant.{Outer, outside}
use Rattle.go_types.specs.Trees.{TypeRow, none, more}
use Rattle.extract_names.specs.Copies.{Copy, HeadTells, TailTells, InSignature, InReturn, DeclaredInList}
use Rattle.extract_names.specs.Gaps.{Among}
use Rattle.extract_names.specs.Sites.{EachEvent, IsPlain}
use Rattle.extract_names_derived.specs.Bodies.{BodySplits}
use Rattle.extract_names_derived.specs.Calls.{NamesType, NamesResults}

-- ---- signatures

-- This holds of the names of parameters that stand behind one which ends here, and that of the names of their types.
abbrev pub NamesFurther : (ℕ → Type 0) → (ℕ → Type 0) → ℕ → List (List ℕ) → TypeRow → Type 0
NamesFurther P N i [] ts = Unit {0}
NamesFurther P N i (n ∷ ns) none = Unit {0}
NamesFurther P N i (n ∷ ns) (more t ts) = P (suc i) × NamesType N (suc (suc i)) t × NamesFurther P N (last (type_tree (suc (suc i)) t)) ns ts

abbrev pub NamesParameters : (ℕ → Type 0) → (ℕ → Type 0) → ℕ → List (List ℕ) → TypeRow → Type 0
NamesParameters P N i [] ts = Unit {0}
NamesParameters P N i (n ∷ ns) none = Unit {0}
NamesParameters P N i (n ∷ ns) (more t ts) = P i × NamesType N (suc i) t × NamesFurther P N (last (type_tree (suc i) t)) ns ts

-- of the signature whose first token has this number
abbrev pub NamesSignature : (ℕ → Type 0) → (ℕ → Type 0) → ℕ → Header → Type 0
NamesSignature P N i h = NamesParameters P N (suc i) h.parameters h.types × NamesResults N (suc (parameters_end (suc i) h.parameters h.types)) h.results

-- the tokens of these parameters
abbrev pub further_tokens : ℕ → List (List ℕ) → TypeRow → List ℕ
further_tokens i [] ts = []
further_tokens i (n ∷ ns) none = []
further_tokens i (n ∷ ns) (more t ts) = suc i ∷ further_tokens (last (type_tree (suc (suc i)) t)) ns ts

abbrev pub parameter_tokens : ℕ → List (List ℕ) → TypeRow → List ℕ
parameter_tokens i [] ts = []
parameter_tokens i (n ∷ ns) none = []
parameter_tokens i (n ∷ ns) (more t ts) = i ∷ further_tokens (last (type_tree (suc i) t)) ns ts

-- The name means where no local does what may be named anywhere.
abbrev pub NamesOutside : Alone → Outer → ℕ → Type 0
NamesOutside new outer i = (o : Object) × (outer (own_text new i) ≡ Some o) × IsPlain (outside o)

-- The function has the printed signature, and its body directly behind. Parameters are those of the copy, and types mean what no local is.
pub record SignatureStands (new : Alone) (outer : Outer) (c : Copy) (e : ℕ) (xs ys : Trees) (split : BodySplits new c.body e xs ys) (h : Header) : Type 0 where
  pub tree : split.signature ≡ signature_tree 2 h
  pub begins : last split.signature ≡ c.body
  pub close : split.last_token ≡ c.close
  pub inner : c.body < c.place c.from
  pub names : NamesSignature (λ u. Among u c.parameters) (NamesOutside new outer) 2 h

pub record SignatureTells (new : Alone) (outer : Outer) (c : Copy) (e : ℕ) (xs ys : Trees) (split : BodySplits new c.body e xs ys) : Type 0 where
  pub head : EachEvent (HeadTells c) split.head
  pub signature : EachEvent (InSignature new outer c) split.head

-- ---- returns

-- This holds of the names behind one that ends here.
abbrev pub NamesBehindOne : (ℕ → Type 0) → ℕ → List (List ℕ) → Type 0
NamesBehindOne R i [] = Unit {0}
NamesBehindOne R i (x ∷ xs) = R (suc i) × NamesBehindOne R (suc (suc i)) xs

-- It holds of the names that are returned by a statement whose first token has this number.
abbrev pub NamesReturned : (ℕ → Type 0) → ℕ → List (List ℕ) → Type 0
NamesReturned R i [] = Unit {0}
NamesReturned R i (x ∷ xs) = R (suc i) × NamesBehindOne R (suc (suc i)) xs

-- A name behind the copy is spelled like a parameter, or like what the list of the run declares.
pub record IsReturned (a new : Alone) (c : Copy) (run : List Event) (i : ℕ) : Type 0 where
  pub behind : c.place c.upto ≤ i
  pub within : i < c.close
  pub meant : ((p : ℕ) × Among p c.parameters × (own_text new i ≡ own_text new p)) ⊎ ((d : Declaration) × DeclaredInList a c run d × (own_text new i ≡ own_text a d.name))

pub record ReturnTells (a new : Alone) (c : Copy) (run behind : List Event) : Type 0 where
  pub tail : EachEvent (TailTells c) behind
  pub returns : EachEvent (InReturn a new c run) behind

-- The statements behind the copied run are the printed return of such names.
pub record ReturnStands (a new : Alone) (c : Copy) (run : List Event) (e : ℕ) (xs ys : Trees) (split : BodySplits new c.body e xs ys) (i : ℕ) (names : List (List ℕ)) : Type 0 where
  pub trees : ys ≡ returning_trees i names
  pub returned : NamesReturned (IsReturned a new c run) i names
