-- A derived function whose tokens are changed at runs to those of calls is a site.
use Rattle.std.proofs.Common.{List, sym, subst}
use Rattle.go_tokens.specs.declared.token.TokenKind.{TokenKind}
use Rattle.go_heads.specs.Functions.{Alone}
use Rattle.go_print_laws.specs.Calls.{Call}
use Rattle.go_rewriting.specs.Places.{Change, changed}
use Rattle.go_rewriting.specs.Sites.{Site}
use Rattle.go_scopes_bodies.specs.Meant.{Outer}
use Rattle.extract_names.specs.Gaps.{Gap}
use Rattle.extract_names.specs.Sites.{IsSite}
use Rattle.extract_names_derived.specs.CallSites.{CallInPlace, CallTreesAtSites, CallsMean}
use Rattle.extract_names_derived.specs.Patches.{EachRun}
use Rattle.extract_names_derived.specs.Sites.{IsChangedFunction}
use Rattle.extract_names_derived.proofs.CallSites.{call_site}
use Rattle.extract_names_derived.proofs.Changed.{ChangesDerive, rewrites}
use Rattle.extract_names_derived.proofs.SiteDerives.{calls_derive}
use Rattle.extract_names_derived.proofs.SiteRuns.{calls_stand}
use Rattle.extract_names_derived.proofs.Split.{TellPieces}
use Rattle.extract_names_derived.proofs.Whole.{Tells}

pub printed_site : (tells : Tells) (tell : TellPieces) (f : ChangesDerive) (ts : List TokenKind) (a : Alone) (outer : Outer) (gaps : List Gap) (xs : List Change) (ss : List Site) (new : Alone) (calls : Gap → Call)
    → IsChangedFunction ts a gaps xs ss new → CallTreesAtSites gaps calls a.tree ss → CallsMean a outer gaps new calls → IsSite a outer gaps new
printed_site tells tell f ts a outer gaps xs ss new calls h t m =
    let r = rewrites f ts a gaps xs ss new h in
    call_site tells tell ts (changed xs ts) a outer gaps new r.rewritten calls (record {
      trees = subst (EachRun (CallInPlace (changed xs ts) gaps calls) a.tree) (sym r.patch) (calls_stand (changed xs ts) gaps calls a.tree ss h.runs (calls_derive ts a gaps xs ss new calls h t));
      mean = m;
    })
