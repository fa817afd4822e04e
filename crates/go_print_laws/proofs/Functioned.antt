-- Functions stand.
use Rattle.std.proofs.Common.{ℕ, List, length}
use Rattle.go_print_laws.specs.Functions.{FunctionsStand}
use Rattle.go_print_laws.proofs.Bodied.{RunsStand, function_derives}
use Rattle.go_print_laws.proofs.Skeletons.{TokensRewritten, function_read}

pub functions_stand : TokensRewritten → RunsStand → FunctionsStand
functions_stand law elsewhere file name f ws new w n b shallow =
    let r = function_read law file name f.header f.body f.returned ws new w n b in
    record { text = r.text; is_text = r.is_text; tokens = r.tokens; tail = r.tail; kinds_are = r.kinds_are; declaration = function_derives elsewhere name f ws file new b shallow }
