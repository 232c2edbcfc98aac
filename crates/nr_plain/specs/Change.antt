-- The model of a descriptor's change.
use Rattle.std.specs.Prelude.{ℕ, List, [], ◌++◌, option_to_list}
use Rattle.nr_rev.specs.declared.descriptor.WaitWord.{WaitWord}
use Rattle.nr_rev.specs.Descriptor.{Change}
use Rattle.nr_plain.specs.declared.change.PlainChange.{PlainChange}
use Rattle.nr_plain.specs.declared.change.Followed.{Followed}
use Rattle.nr_plain.specs.declared.change.Unblocked.{Unblocked}

-- the change that this Rust type represents
abbrev pub change_view : PlainChange → Change
change_view c =
    record {
      descriptor = c.descriptor;
      orders = option_to_list c.orders.read ++ option_to_list c.orders.write;
      woken = option_to_list c.woken.read ++ option_to_list c.woken.write;
    }

-- the change that a `Followed` represents: it has at most one order and wakes no goroutine
abbrev pub followed_view : Followed → Change
followed_view f = record { descriptor = f.descriptor; orders = option_to_list f.order; woken = [] }

-- the new word and the goroutines that are woken
abbrev pub unblocked_view : Unblocked → WaitWord × List ℕ
unblocked_view u = (u.word, option_to_list u.woken)
