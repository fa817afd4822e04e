-- What a tree that lies in no run tells stays.
use Rattle.std.proofs.Common.{◌≡◌, ℕ, suc, ◌<◌, ◌≤◌, ◌⊎◌, inl, inr, List, [], ◌∷◌, Option, Some, None, refl, sym, subst, arith}
use Rattle.go_tree.specs.declared.context.Block.{Block}
use Rattle.go_tree.specs.declared.context.Role.{Role}
use Rattle.go_tree.specs.declared.context.Role.TheVariants as role
use Rattle.go_tree.specs.declared.context.Scope.{Scope}
use Rattle.go_tree.specs.declared.event.Declaration.{Declaration}
use Rattle.go_tree.specs.declared.event.Event.{Event}
use Rattle.go_tree.specs.declared.event.Event.TheVariants as event
use Rattle.extract_names.specs.Gaps.{Gap, Among, Stays, AtEdge, BlockAtEdge, EachGap}
use Rattle.extract_names.specs.Sites.{IsApart, TokenStays, DeclarationStays, RoleStays, EventStays, DeclarationGoes, EventGoes}
use Rattle.extract_names_derived.proofs.Lying.{In, OptionIn, EndsAs, OwnLies, ParameterLies, DeclarationLies, UseRoleLies, EventLies}

-- ---- gaps one by one

pub stays_by : (gs : List Gap) (t : ℕ) → ((g : Gap) → Among g gs → (t < g.from) ⊎ (g.upto ≤ t)) → Stays gs t
stays_by [] t f = tt
stays_by (g ∷ gs) t f = (f g (inl refl), stays_by gs t (λ z a. f z (inr a)))

pub edge_by : (gs : List Gap) (t : ℕ) → ((g : Gap) → Among g gs → (t ≤ g.from) ⊎ (g.upto ≤ t)) → AtEdge gs t
edge_by [] t f = tt
edge_by (g ∷ gs) t f = (f g (inl refl), edge_by gs t (λ z a. f z (inr a)))

pub each_by : (Q : Gap → Type 0) (gs : List Gap) → ((g : Gap) → Among g gs → Q g) → EachGap Q gs
each_by Q [] f = tt
each_by Q (g ∷ gs) f = (f g (inl refl), each_by Q gs (λ z a. f z (inr a)))

pub stays_edge : (gs : List Gap) (t : ℕ) → Stays gs t → AtEdge gs t
stays_edge [] t h = tt
stays_edge (g ∷ gs) t h = (by h.0, stays_edge gs t h.1)
  where
    by : (t < g.from) ⊎ (g.upto ≤ t) → (t ≤ g.from) ⊎ (g.upto ≤ t)
    by (inl x) = inl (omega arith)
    by (inr x) = inr x

-- The gap ends in front of the token m, or begins at b or behind it.
abbrev pub Aside : ℕ → ℕ → Gap → Type 0
Aside m b g = (g.upto < m) ⊎ (b ≤ g.from)

-- scopes of parameters
abbrev pub ParametersStay : List Gap → Option Scope → Type 0
ParametersStay gs None = Unit {0}
ParametersStay gs (Some s) = AtEdge gs s.from × AtEdge gs s.to × ((g : Gap) → Among g gs → s.from ≤ g.from)

module _ (all : List Gap) (m a b : ℕ) (blk : Block) (e : ℕ) (par : Option Scope) (f : (g : Gap) → Among g all → Aside m b g) (le : m ≤ suc a) (at : BlockAtEdge all blk) (end : AtEdge all e) (scope : ParametersStay all par) where
  in_stays : (t : ℕ) → In m a b blk e par t → Stays all t
  in_stays t h = stays_by all t (λ g z. by g (f g z))
    where
      by : (g : Gap) → Aside m b g → (t < g.from) ⊎ (g.upto ≤ t)
      by g (inl x) = inr (omega (arith, x, le, h.0))
      by g (inr x) = inl (omega (arith, x, h.1))

  between_edge : (t : ℕ) → a ≤ t → t ≤ b → AtEdge all t
  between_edge t lo hi = edge_by all t (λ g z. by g (f g z))
    where
      by : (g : Gap) → Aside m b g → (t ≤ g.from) ⊎ (g.upto ≤ t)
      by g (inl x) = inr (omega (arith, x, le, lo))
      by g (inr x) = inl (omega (arith, x, hi))

  option_stays : (o : Option ℕ) → OptionIn m a b blk e par o → TokenStays all o
  option_stays None h = tt
  option_stays (Some t) h = in_stays t h

  block_edge : (k : Block) (to : ℕ) → EndsAs m a b blk e par k to → BlockAtEdge all k × AtEdge all to
  block_edge k to (inl x) = (subst (BlockAtEdge all) (sym x.0) at, subst (AtEdge all) (sym x.1) end)
  block_edge k to (inr x) = (subst (BlockAtEdge all) (sym x.1) (stays_edge all x.0 (in_stays x.0 x.2)), between_edge to x.3.0 x.3.1)

  own_apart : (d : Declaration) → m ≤ d.name → d.scope.from ≤ b → EachGap (IsApart d) all
  own_apart d lo hi = each_by (IsApart d) all (λ g z. by g (f g z))
    where
      by : (g : Gap) → Aside m b g → IsApart d g
      by g (inl x) = inr (omega (arith, x, lo))
      by g (inr x) = inl (omega (arith, x, hi))

  given_scope : (o : Option Scope) (s : Scope) → Some s ≡ o → ParametersStay all o → AtEdge all s.from × AtEdge all s.to × ((g : Gap) → Among g all → s.from ≤ g.from)
  given_scope None s h p = absurd cc
  given_scope (Some r) s h p = let same : r ≡ s = cc in subst (λ x. AtEdge all x.from × AtEdge all x.to × ((g : Gap) → Among g all → x.from ≤ g.from)) same p

  declaration_stays : (d : Declaration) → DeclarationLies m a b blk e par d → DeclarationStays all d
  declaration_stays d h = by h.sort
    where
      by : OwnLies m a b blk e par d ⊎ ParameterLies m a b blk e par d → DeclarationStays all d
      by (inl x) =
          let ends = block_edge d.block d.scope.to x.ends in
          record {
            name = in_stays d.name h.name;
            block = ends.0;
            from = between_edge d.scope.from (omega (arith, x.behind)) x.upto;
            to = ends.1;
            statement = in_stays d.statement x.statement;
            source = option_stays d.source x.source;
            follows = h.follows;
            apart = λ z. own_apart d h.low x.upto;
          }
      by (inr x) =
          let s = given_scope par d.scope x.given scope in
          record {
            name = in_stays d.name h.name;
            block = subst (BlockAtEdge all) (sym x.block) s.0;
            from = s.0;
            to = s.1;
            statement = in_stays d.statement x.statement;
            source = subst (TokenStays all) (sym x.source) tt;
            follows = h.follows;
            apart = λ z. each_by (IsApart d) all (λ g w. inl (s.2 g w));
          }

  role_stays : (r : Role) → UseRoleLies m a b blk e par r → RoleStays all r
  role_stays (role.Selected l c) h = (h.0, h.1, in_stays h.0 h.2)
  role_stays (role.New d) h = tt
  role_stays (role.Field g) h = tt
  role_stays (role.Key g) h = tt
  role_stays (role.Parameter g s) h = tt
  role_stays role.Operand h = tt
  role_stays role.Assigned h = tt
  role_stays role.Called h = tt

  pub event_stays : (x : Event) → EventLies m a b blk e par x → EventStays all x
  event_stays (event.Declaration d) h = declaration_stays d h
  event_stays (event.Use u) h = (in_stays u.name h.name, role_stays u.role h.role, h.initial, option_stays _ h.specification)
  event_stays (event.Member k g x) h = (in_stays g h.0, in_stays x h.1)
  event_stays (event.Import i) h = tt
  event_stays (event.Bodiless i j) h = tt
  event_stays (event.Statement i j) h = tt
  event_stays (event.Misplaced i j) h = tt
  event_stays (event.SecondDefault w) h = tt

-- ---- what a run tells

module _ (m : ℕ) (g : Gap) (blk : Block) (e : ℕ) where
  pub declaration_goes : (d : Declaration) → DeclarationLies m g.from g.upto blk e None d → DeclarationGoes g blk e d
  declaration_goes d h = by h.sort
    where
      ends_by : (d.scope.from ≤ g.upto) → EndsAs m g.from g.upto blk e None d.block d.scope.to → (d.scope.to ≤ g.upto) ⊎ ((d.block ≡ blk) × (d.scope.to ≡ e) × (d.scope.from ≤ g.upto))
      ends_by le (inl x) = inr (x.0, x.1, le)
      ends_by le (inr x) = inl x.3.1

      by : OwnLies m g.from g.upto blk e None d ⊎ ParameterLies m g.from g.upto blk e None d → DeclarationGoes g blk e d
      by (inl x) = record { name = h.name; statement = x.statement; local = x.local; variety = x.variety; behind = x.behind; ends = ends_by x.upto x.ends }
      by (inr x) = let no : Some d.scope ≡ None = x.given in absurd cc

  pub event_goes : (x : Event) → EventLies m g.from g.upto blk e None x → EventGoes g blk e x
  event_goes (event.Declaration d) h = declaration_goes d h
  event_goes (event.Use u) h = h.name
  event_goes (event.Member k y x) h = (h.0, h.1)
  event_goes (event.Import i) h = tt
  event_goes (event.Bodiless i j) h = tt
  event_goes (event.Statement i j) h = tt
  event_goes (event.Misplaced i j) h = tt
  event_goes (event.SecondDefault w) h = tt
