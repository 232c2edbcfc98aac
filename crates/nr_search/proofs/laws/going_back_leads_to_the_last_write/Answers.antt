use Rattle.nr_search.proofs.LastWriteLemmas.{steady, written}
use Rattle.nr_search.proofs.laws.going_back_leads_to_the_last_write.Goals as goal

pub returns-clause-steady : goal.returns-clause-steady
returns-clause-steady c = λ r number n p cell ms h q from within. steady r number n p cell ms h q from within

pub returns-clause-written : goal.returns-clause-written
returns-clause-written c = λ r number n p cell ms h. written r number n p cell ms h
