-- A log is a struct without fields, so it may go to another thread.
use denote.Param.Send.{IsSend, owning_send}
use Rattle.nr_serving.specs.contracts.conversations.Conversations.{the_row, the_type}

pub send : IsSend the_row
send = owning_send the_type tt (λ d. tt) (λ k x w. tt)
