-- What the code's answers mean. Assumes nothing.
use Rattle.std.specs.Prelude.{length}
use Rattle.list.specs.Reading.{Listed}
use Rattle.list.specs.declared.ListHead.{ListHead}

-- "B, L, the count": what reading answers beside the tags, which it leaves in the cells.
unfoldable pub head_of : Listed → ListHead
head_of listed = record { groups = listed.groups; limit = listed.limit; count = length listed.tags }
