-- A file with a function behind all its declarations is longer.
use Rattle.std.proofs.Common.{◌≡◌, ℕ, suc, ◌<◌, ◌≤◌, List, [], ◌∷◌, Some, refl, sym, ap, subst, arith}
use Rattle.std.specs.List.{AllByRecursion}
use Rattle.go_tokens.specs.Tokens.{TokenList}
use Rattle.go_tokens.specs.declared.token.TokenKind.{TokenKind}
use Rattle.go_grammar.specs.declared.kind.Category.TheVariants as category
use Rattle.go_grammar.specs.declared.kind.Kind.TheVariants as kind
use Rattle.go_grammar.specs.Trees.{Tree, node, Trees, first, last}
use Rattle.go_grammar.specs.Grammar.{IsFile, Derives}
use Rattle.go_rewriting.specs.Places.{with_declaration}
use Rattle.go_tree.specs.declared.context.Block.TheVariants as block
use Rattle.go_tree.specs.declared.context.Entity.TheVariants as entity
use Rattle.go_tree.specs.declared.context.Manner.TheVariants as manner
use Rattle.go_tree.specs.declared.event.Event.{Event}
use Rattle.go_tree.specs.declared.event.Event.TheVariants as event
use Rattle.go_tree.specs.Contexts.{file_context}
use Rattle.go_tree.specs.Declarations.{Found, found_in}
use Rattle.go_tree.specs.Events.{function_declared, events}
use Rattle.go_tree.specs.Units.{word, bytes_at}
use Rattle.go_scopes_events.specs.Orders.{AreInOrder, EachDeclared}
use Rattle.go_scopes_events.proofs.Public.{IsLaidOut, derives_laid, events_order, laid_grows}
use Rattle.go_heads_added.specs.Added.{IsParameter, AreEarlier, AreLater}
use Rattle.go_heads_added.specs.Appended.{IsFront, IsParameterOf, TellsMore, context_behind, empty_function, unit_of}
use Rattle.go_heads_added.proofs.Appended.{file_added}
use Rattle.go_heads_added.proofs.Parameters.{signature_context, function_tells, parameters_own}

-- ---- order

order_least : (i j : ℕ) (es : List Event) → AreInOrder i j es → i ≤ j
order_least i j [] h = h
order_least i j (event.Declaration d ∷ es) h = let a = h.0 in let r = order_least (suc d.name) j es h.1 in omega (arith, a, r)
order_least i j (event.Use u ∷ es) h = let a = h.0 in let r = order_least (suc u.name) j es h.1 in omega (arith, a, r)
order_least i j (e ∷ es) h = order_least i j es h

pub earlier_of : (i n : ℕ) (es : List Event) → AreInOrder i n es → AreEarlier n es
earlier_of i n [] h = tt
earlier_of i n (event.Declaration d ∷ es) h = (let r = order_least (suc d.name) n es h.1 in omega (arith, r), earlier_of (suc d.name) n es h.1)
earlier_of i n (event.Use u ∷ es) h = (let r = order_least (suc u.name) n es h.1 in omega (arith, r), earlier_of (suc u.name) n es h.1)
earlier_of i n (e ∷ es) h = earlier_of i n es h

later_of : (n i j : ℕ) (es : List Event) → n ≤ i → AreInOrder i j es → AreLater n es
later_of n i j [] l h = tt
later_of n i j (event.Declaration d ∷ es) l h = (let a = h.0 in omega (arith, a, l), later_of n (suc d.name) j es (let a = h.0 in omega (arith, a, l)) h.1)
later_of n i j (event.Use u ∷ es) l h = (let a = h.0 in omega (arith, a, l), later_of n (suc u.name) j es (let a = h.0 in omega (arith, a, l)) h.1)
later_of n i j (e ∷ es) l h = later_of n i j es l h

-- ---- parameters

-- those of a function whose body begins behind the token n
parameters_found : (k n body : ℕ) (ts : TokenList) (es : List Event) → n ≤ body → AreLater n es → EachDeclared (IsParameterOf body) es → AllByRecursion (IsParameter k n) (found_in k ts es)
parameters_found k n body ts [] l o h = tt
parameters_found k n body ts (event.Declaration d ∷ es) l o h =
    let p = h.0 in
    let s = p.scope in (
      record { file = refl; entity = p.entity; manner = p.manner; first = body; block = p.block; later = l; named = o.0; scope = omega (arith, l, s) },
      parameters_found k n body ts es l o.1 h.1,
    )
parameters_found k n body ts (event.Use u ∷ es) l o h = parameters_found k n body ts es l o.1 h
parameters_found k n body ts (event.Import p ∷ es) l o h = parameters_found k n body ts es l o h
parameters_found k n body ts (event.Member m g i ∷ es) l o h = parameters_found k n body ts es l o h
parameters_found k n body ts (event.Bodiless i j ∷ es) l o h = parameters_found k n body ts es l o h
parameters_found k n body ts (event.Statement i j ∷ es) l o h = parameters_found k n body ts es l o h
parameters_found k n body ts (event.Misplaced i j ∷ es) l o h = parameters_found k n body ts es l o h
parameters_found k n body ts (event.SecondDefault i ∷ es) l o h = parameters_found k n body ts es l o h

-- ---- files

module _ (k n i j end x y u v : ℕ) (a b : TokenList) (kts : List TokenKind) (ps : Trees) (s : Tree) where
  abbrev d : Tree
  d = empty_function x y s u v

  abbrev signature : List Event
  signature = events (signature_context end x y s u v ps) s

  -- the function as its file declares it
  abbrev function_found : Found
  function_found = record {
    file = k;
    name = word b (suc x);
    place = bytes_at k b (suc x);
    it = record { name = suc x; entity = entity.Function; manner = manner.Declared; block = block.Package; scope = record { from = x; to = y }; statement = x; source = Some x; column = 0 };
  }

  pub tells_more : IsFront n a b → Derives kts category.Declaration d → n ≤ x → TellsMore k n (word b (suc x)) (unit_of a (node kind.File i j ps)) (unit_of b (with_declaration (node kind.File i j ps) d end))
  tells_more f h l =
      let laid : IsLaidOut d = derives_laid kts d category.Declaration h in
      let name : suc (suc x) ≤ first s = laid.1.0 in
      let grows : first s < last s = laid_grows s laid.1.1 in
      let order : AreInOrder (first s) (last s) signature = events_order (signature_context end x y s u v ps) s laid.1.1 in
      let later : AreLater n signature = later_of n (first s) (last s) signature (omega (arith, l, name)) order in
      let is : events (context_behind end ps d) d ≡ function_declared x y ∷ signature = function_tells end x y s u v ps laid.0 in
      record {
        longer = record {
          end = end;
          added = events (context_behind end ps d) d;
          events = file_added i j end ps d;
          count = f.count;
          more = f.more;
          words = f.words;
          places = f.places;
          function = function_found;
          parameters = found_in k b signature;
          declares = ap (found_in k b) is;
          is_function = record { file = refl; named = omega (arith, l); name = refl; block = refl; entity = refl; manner = refl };
          are_parameters = parameters_found k n (last s) b signature (omega (arith, l, name, grows)) later (parameters_own kts end x y s u v ps h);
        };
        later = subst (AreLater n) (sym is) (omega (arith, l), later);
      }

  pub told_is : (f : IsFront n a b) (h : Derives kts category.Declaration d) (l : n ≤ x) → (tells_more f h l).longer.added ≡ events (context_behind end ps d) d
  unfolding tells_more
  told_is f h l = refl

-- what a file tells stands in front of its end
pub file_earlier : (kts : List TokenKind) (t : Tree) (n : ℕ) → IsFile kts t → last t ≡ n → AreEarlier n (events (file_context (last t)) t)
file_earlier kts t n f e =
    earlier_of (first t) n (events (file_context (last t)) t)
    (subst (λ m. AreInOrder (first t) m (events (file_context (last t)) t)) e (events_order (file_context (last t)) t (derives_laid kts t category.File f.derives)))
