-- Which changes a writer made, and with which contents.
use Rattle.std.specs.Prelude.{◌≡◌, ℕ, Bool, true, false, Option, Some, None, List, [], ◌∷◌, ◌++◌, slice_get, flat_map}
use Rattle.vt_journal.specs.Shape.{Shape}
use Rattle.vt_journal.specs.declared.changes.Event.{Event}
use Rattle.vt_journal.specs.JournalText.{changes_of}
use Rattle.vt_requests.specs.PlanTypes.batches.Planned.{Planned}
use Rattle.vt_streamer.specs.GraceTypes.views.WriterView.{WriterView}
use Rattle.vt_queue.specs.declared.items.Loaded.{Loaded}
use Rattle.vt_requests.specs.Readings.{is_lost}
use Rattle.vt_requests.specs.Outcomes.{group_of}
use Rattle.vt_streamer.specs.Fills.{words_in}
use Rattle.vt_streamer.specs.Views.{StreamerView}
use Rattle.vt_requests.specs.BatchRounds.{result_events}

-- the changes of some events were published, with these contents, after looks at samplers and fills of frames
pub record HasMade (events : List Event) (brought : List (List ℕ)) (v w : WriterView) : Type 0 where
  pub journal : w.journal ≡ v.journal ++ changes_of events
  pub contents : w.contents ≡ v.contents ++ brought
  pub rest : w ≡ record v {
    journal = w.journal;
    contents = w.contents;
    entries = w.entries;
    floors = w.floors;
    looks = w.looks;
    texels = w.texels;
  }

-- a streamer whose writer only looked at samplers, and is this one since
abbrev pub after_looks : StreamerView → WriterView → StreamerView
after_looks v w = record v { writer = record v.writer { floors = w.floors; looks = w.looks } }

-- the contents that the unmap of an entry's victim is published with, if it has one: that of a change that maps no page
abbrev pub victim_contents : Option ℕ → List (List ℕ)
victim_contents None = []
victim_contents (Some victim) = [] ∷ []

-- the contents of an entry's changes: none where it was lost; where it was read, that of the unmap and then the words of the tile's bytes
abbrev pub group_contents : Shape → Planned → Bool → List ℕ → List (List ℕ)
group_contents s e true tile = []
group_contents s e false tile = victim_contents e.victim ++ words_in s tile ∷ []

-- those of an entry, if there is one
abbrev pub contents_if : Shape → Option Planned → Bool → List ℕ → List (List ℕ)
contents_if s None lost tile = []
contents_if s (Some e) lost tile = group_contents s e lost tile

-- the contents of a result: those of the entry of its ticket, with its buffer as the tile
abbrev pub result_contents : Shape → List Planned → Loaded → List (List ℕ)
result_contents s batch result = contents_if s (slice_get batch result.request.ticket) (is_lost result.outcome) result.request.buffer.elements

-- the contents of results, in the order in which they came
abbrev pub results_contents : Shape → List Planned → List Loaded → List (List ℕ)
results_contents s batch results = flat_map (result_contents s batch) results

-- the changes of the results of a batch were published, in the order in which they came, each map with the words of its result's buffer
abbrev pub HasStreamed : Shape → List Planned → List Loaded → WriterView → WriterView → Type 0
HasStreamed s batch results v w = HasMade (result_events batch results) (results_contents s batch results) v w

-- an entry was put with a tile: the changes of its group were made
pub record HasPut (e : Planned) (tile : List ℕ) (v w : StreamerView) : Type 0 where
  pub made : HasMade (group_of e false) (group_contents v.shape e false tile) v.writer w.writer
  pub shape : w.shape ≡ v.shape
