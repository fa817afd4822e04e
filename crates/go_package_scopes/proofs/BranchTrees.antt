-- In the tree of a file without faults of names each branch stands where it may.
use Rattle.std.proofs.Common.{◌≡◌, ℕ, suc, Bool, true, false, List, [], ◌∷◌, ◌++◌, refl}
use Rattle.std.specs.Prelude.{◌&&◌, not}
use Rattle.go_grammar.specs.declared.kind.Kind.{Kind}
use Rattle.go_grammar.specs.declared.kind.Kind.TheVariants as kind
use Rattle.go_grammar.specs.Trees.{Tree, node, Trees, none, more, skip}
use Rattle.go_grammar.specs.Grammar.{ends_named}
use Rattle.go_tokens.specs.Tokens.{TokenList}
use Rattle.go_tree.specs.declared.context.Context.{Context}
use Rattle.go_tree.specs.declared.event.Event.{Event}
use Rattle.go_tree.specs.declared.event.Event.TheVariants as event
use Rattle.go_tree.specs.Branches.{misplaced}
use Rattle.go_tree.specs.Contexts.{enter, breaks_in, continues_in, followed_in, falls_in}
use Rattle.go_tree.specs.Events.{own_events, statement_events, is_more, pass, begin, events, events_of}
use Rattle.go_tree.specs.Events as told
use Rattle.go_stmts_defs.specs.Bodies.{based, all_based}
use Rattle.go_stmts_scopes.specs.Standing.{Exits}

-- ---- trees

abbrev pub KindMayLead : Exits → Kind → Type 0
KindMayLead e kind.Break = e.breaks ≡ true
KindMayLead e kind.Continue = e.continues ≡ true
KindMayLead e kind.Fallthrough = e.falls ≡ true
KindMayLead e k = Unit {0}

abbrev pub exits_of : Exits → Kind → Exits
exits_of e kind.For = record { breaks = true; continues = true; falls = e.falls }
exits_of e kind.Switch = record { breaks = true; continues = e.continues; falls = true }
exits_of e k = e

abbrev mutual
  pub BranchesLead : Exits → Tree → Type 0
  BranchesLead e (node k i j ps) = KindMayLead e k × AllBranchesLead (exits_of e k) ps

  pub AllBranchesLead : Exits → Trees → Type 0
  AllBranchesLead e none = Unit {0}
  AllBranchesLead e (more p ps) = BranchesLead e p × AllBranchesLead e ps
  AllBranchesLead e (skip ps) = AllBranchesLead e ps

mutual
  pub based_leads : (b : ℕ) (e : Exits) (t : Tree) → BranchesLead e t → BranchesLead e (based b t)
  based_leads b e (node k i j ps) h = (h.0, all_based_lead b (exits_of e k) ps h.1)

  all_based_lead : (b : ℕ) (e : Exits) (ps : Trees) → AllBranchesLead e ps → AllBranchesLead e (all_based b ps)
  all_based_lead b e none h = tt
  all_based_lead b e (more p ps) h = (based_leads b e p h.0, all_based_lead b e ps h.1)
  all_based_lead b e (skip ps) h = all_based_lead b e ps h

-- ---- what contexts allow

-- what the context allows may stand
pub record Allows (e : Exits) (c : Context) : Type 0 where
  pub breaks : c.breaks ≡ true → e.breaks ≡ true
  pub continues : c.continues ≡ true → e.continues ≡ true
  pub followed : c.followed ≡ true → e.falls ≡ true
  pub falls : c.falls ≡ true → e.falls ≡ true

pub record Inner (e : Exits) (c : Context) (k : Kind) (b : Bool) : Type 0 where
  pub breaks : breaks_in c k ≡ true → (exits_of e k).breaks ≡ true
  pub continues : continues_in c k ≡ true → (exits_of e k).continues ≡ true
  pub followed : followed_in k b ≡ true → (exits_of e k).falls ≡ true
  pub falls : falls_in c k b ≡ true → (exits_of e k).falls ≡ true

never : {A : Type 0} → false ≡ true → A
never e = absurd cc

first_true : (a b : Bool) → (a && b) ≡ true → a ≡ true
first_true true b e = refl
first_true false b e = e

inner : (e : Exits) (c : Context) (k : Kind) (b : Bool) → Allows e c → Inner e c k b
inner e c kind.For b h = record { breaks = λ z. refl; continues = λ z. refl; followed = λ z. never z; falls = λ z. never z }
inner e c kind.Switch b h = record { breaks = λ z. refl; continues = h.continues; followed = λ z. refl; falls = λ z. refl }
inner e c kind.Case b h = record { breaks = h.breaks; continues = h.continues; followed = λ z. never z; falls = λ z. h.followed (first_true c.followed (not b) z) }
inner e c kind.Default b h = record { breaks = h.breaks; continues = h.continues; followed = λ z. never z; falls = λ z. h.followed (first_true c.followed (not b) z) }
inner e c k b h = record { breaks = h.breaks; continues = h.continues; followed = λ z. never z; falls = λ z. never z }

entered : (e : Exits) (c : Context) (k : Kind) (i j : ℕ) (ps : Trees) (named : Bool) (n : ℕ) (p : Tree) (b : Bool) → Allows e c → Allows (exits_of e k) (enter c k i j ps named n p b)
entered e c k i j ps named n p b h = let g = inner e c k b h in record { breaks = g.breaks; continues = g.continues; followed = g.followed; falls = g.falls }

-- ---- events

module _ (m : ℕ) (ts : TokenList) where
  abbrev pub NoneMisplaced : List Event → Type 0
  NoneMisplaced es = misplaced m ts es ≡ []

  none_there : (x : Event) (es : List Event) → NoneMisplaced (x ∷ es) → NoneMisplaced es
  none_there (event.Misplaced i j) es h = absurd cc
  none_there x es h = h

  behind : (es fs : List Event) → NoneMisplaced (es ++ fs) → NoneMisplaced fs
  behind [] fs h = h
  behind (x ∷ es) fs h = behind es fs (none_there x (es ++ fs) h)

  before : (es fs : List Event) → NoneMisplaced (es ++ fs) → NoneMisplaced es
  before [] fs h = refl
  before (event.Misplaced i j ∷ es) fs h = absurd cc
  before (x ∷ es) fs h = before es fs h

  allowed : (b : Bool) (i j : ℕ) → NoneMisplaced (told.misplaced b i j) → b ≡ true
  allowed true i j h = refl
  allowed false i j h = absurd cc

  may_lead : (e : Exits) (c : Context) (k : Kind) (i j : ℕ) (ps : Trees) → Allows e c → NoneMisplaced (own_events c k i j ps) → KindMayLead e k
  may_lead e c kind.Break i j ps a h = a.breaks (allowed c.breaks i j h)
  may_lead e c kind.Continue i j ps a h = a.continues (allowed c.continues i j h)
  may_lead e c kind.Fallthrough i j ps a h = a.falls (allowed c.falls i j h)
  may_lead e c k i j ps a h = tt

  mutual
    pub branches_lead : (e : Exits) (c : Context) (t : Tree) → Allows e c → NoneMisplaced (events c t) → BranchesLead e t
    branches_lead e c (node k i j ps) a h =
        let own : List Event = own_events c k i j ps in
        let parts : List Event = events_of (begin c k) k i j ps 0 ps in (
          may_lead e c k i j ps a (behind (statement_events c.listed i j) own (before (statement_events c.listed i j ++ own) parts h)),
          all_branches_lead e (begin c k) k i j ps 0 ps (record { breaks = a.breaks; continues = a.continues; followed = a.followed; falls = a.falls }) (behind (statement_events c.listed i j ++ own) parts h),
        )

    all_branches_lead : (e : Exits) (c : Context) (k : Kind) (i j : ℕ) (ps : Trees) (n : ℕ) (qs : Trees) → Allows e c → NoneMisplaced (events_of c k i j ps n qs) → AllBranchesLead (exits_of e k) qs
    all_branches_lead e c k i j ps n none a h = tt
    all_branches_lead e c k i j ps n (more p qs) a h =
        let d : Context = enter c k i j ps (ends_named ps) n p (is_more qs) in (
          branches_lead (exits_of e k) d p (entered e c k i j ps (ends_named ps) n p (is_more qs) a) (before (events d p) (events_of (pass c p) k i j ps (suc n) qs) h),
          all_branches_lead e (pass c p) k i j ps (suc n) qs (record { breaks = a.breaks; continues = a.continues; followed = a.followed; falls = a.falls })
              (behind (events d p) (events_of (pass c p) k i j ps (suc n) qs) h),
        )
    all_branches_lead e c k i j ps n (skip qs) a h = all_branches_lead e c k i j ps (suc n) qs a h
