use Rattle.go_function_headers.proofs.Functions.{functions_read}
use Rattle.go_function_headers.proofs.laws.functions_read.Goals as goal

pub returns : goal.returns
returns c = functions_read c.functions_stand.ensures c.headers_stand.ensures c.rewritten_tokens.ensures
