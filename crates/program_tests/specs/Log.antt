-- What was recorded, as events.
use Rattle.std.specs.Prelude.{Some, None, true}
use Rattle.pbfcut_program.specs.Events.{Event, text_read, text_not_read, looked, opened, not_opened, seeded, made, not_made, screened, read, wrote, linked, moved, renamed, not_named, removed, stays, not_synced, printed, told, advised}
use Rattle.program_tests.specs.declared.happened.Happened.{Happened}
use Rattle.program_tests.specs.declared.happened.Happened.TheVariants as happened

-- one value recorded is one event
abbrev pub event_of : Happened → Event
event_of (happened.TextRead path text) = text_read path.items text.items
event_of (happened.TextNotRead path) = text_not_read path.items
event_of (happened.Looked path overwrite there) = looked path.items overwrite there
event_of (happened.Opened path pass has) = opened path.items pass (Some has.items)
event_of (happened.NotOpened path fault) = not_opened path.items fault
event_of (happened.Seeded key) = seeded key
event_of (happened.Made name) = made name.items
event_of (happened.NotMade name fault) = not_made name.items fault
event_of (happened.Screened there) = screened there
event_of (happened.Read bytes left failures) = read (record { bytes = bytes.items; left = Some left.items; failures = failures })
event_of (happened.Wrote name bytes failures kept fault) = wrote (record { name = Some name.items; bytes = bytes.items; reports = true; failures = failures; kept = kept; fault = fault })
event_of (happened.WroteScreen bytes failures kept fault) = wrote (record { name = None; bytes = bytes.items; reports = true; failures = failures; kept = kept; fault = fault })
event_of (happened.Linked from to) = linked from.items to.items
event_of (happened.Moved from to) = moved from.items to.items
event_of (happened.Renamed from to) = renamed from.items to.items
event_of (happened.NotNamed from to fault) = not_named from.items to.items fault
event_of (happened.Removed name) = removed name.items
event_of (happened.Stays name) = stays name.items
event_of (happened.NotSynced name) = not_synced name.items
event_of (happened.Printed screen text fault) = printed screen text.items fault
event_of (happened.Told text) = told text.items
event_of happened.Advised = advised
