-- The changes to a list.
use Rattle.std.specs.Prelude.{ℕ, ◌+◌, ◌≤◌, List, ◌++◌, length, take, drop}
use Rattle.nr_plain.specs.declared.list_edit.ListEdit.{ListEdit}
use Rattle.nr_plain.specs.declared.list_edit.ListEdit.TheVariants as edit

-- a list after a change
abbrev pub after_list_edit : {A : Type 0} → ListEdit A → List A → List A
after_list_edit (edit.Extend items) list = list ++ items.now
after_list_edit (edit.ExtendFront items) list = items.now ++ list
after_list_edit (edit.DropFront count) list = drop count list
after_list_edit (edit.Truncate count) list = take count list

-- true if the list has room for the items that the change adds
abbrev pub CanEditList : {A : Type 0} → ℕ → ListEdit A → List A → Type 0
CanEditList room (edit.Extend items) list = length list + length items.now ≤ room
CanEditList room (edit.ExtendFront items) list = length items.now + length list ≤ room
CanEditList room (edit.DropFront count) list = Unit {0}
CanEditList room (edit.Truncate count) list = Unit {0}
