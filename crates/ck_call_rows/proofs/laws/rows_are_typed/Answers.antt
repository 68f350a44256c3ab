use Rattle.ck_call_rows.proofs.laws.rows_are_typed.Goals as goal

pub returns : goal.returns
returns c = λ l r names rows. record { calls = rows.calls; names = names.each }
