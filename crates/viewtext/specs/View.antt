-- The two lists of a view.
use Rattle.std.specs.Prelude.{if◌then◌else◌}
use Rattle.viewtext.specs.State.{given}
use Rattle.viewtext.specs.declared.view_file.Which.{Which}
use Rattle.viewtext.specs.declared.view_file.Which.TheVariants.{Logical, Physical}
use Rattle.viewtext.specs.declared.list.List.{List}
use Rattle.viewtext.specs.declared.view_file.Lists.{Lists}

-- one of the two
abbrev pub list_of : Which → Lists → List
list_of Logical lists = lists.logical
list_of Physical lists = lists.physical

-- the one that serves as it: that one, or where the file does not have it the other
abbrev pub serving : Which → Lists → List
serving which lists = if given lists.logical.state then (if given lists.physical.state then list_of which lists else lists.logical) else lists.physical
