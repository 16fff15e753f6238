use Rattle.std.proofs.Common.{rules, ◌≡◌, ◌+◌, ◌<◌, ◌++◌, ◌∷◌, [], ℕ, List, arith, length, take, get_or, sym, ap, ◌∙◌, length-take}
use Rattle.std.proofs.lemmas.List.{take_more, take_all}
use Rattle.vt_pages.specs.Shape.{Shape}
use Rattle.vt_journal.specs.declared.changes.Event.{Event}
use Rattle.vt_journal.specs.JournalText.{changes_of, event_lines, lines_text}
use Rattle.vt_journal.proofs.Fronts.{front_of_front}
use Rattle.vt_journal.proofs.EventLines.{length-changes_of, version_more, text_more}
use Rattle.vt_journal.proofs.write.add_events.Goals as goal

pub add_event-requires-clause-room : goal.add_event-requires-clause-room
add_event-requires-clause-room c =
    let events = c.args.events.now in
    omega (arith, c.loop-event.invariant.version, length-changes_of (take c.loop-event.event-index events), length-take {A = Event})

-- the texts and the version, one event later
version_after : (events : List Event) (i start v w : ℕ) (d : Event) → i < length events
    → v ≡ start + length (changes_of (take i events)) → w ≡ v + length (changes_of (get_or events i d ∷ []))
    → w ≡ start + length (changes_of (take (i + 1) events))
version_after events i start v w d within is next =
    next ∙ version_more start v (take i events) (get_or events i d) is
    ∙ ap (λ es. start + length (changes_of es)) (sym (take_more events i d within))

text_after : (s : Shape) (old before after : List ℕ) (events : List Event) (i start v : ℕ) (d : Event) → i < length events
    → v ≡ start + length (changes_of (take i events))
    → before ≡ old ++ lines_text s (event_lines start (take i events)) → after ≡ before ++ lines_text s (event_lines v (get_or events i d ∷ []))
    → after ≡ old ++ lines_text s (event_lines start (take (i + 1) events))
text_after s old before after events i start v d within is was next =
    next ∙ ap (λ t. t ++ lines_text s (event_lines v (get_or events i d ∷ []))) was
    ∙ text_more s old start v (take i events) (get_or events i d) is
    ∙ ap (λ es. old ++ lines_text s (event_lines start es)) (sym (take_more events i d within))

pub loop-event-preserved : goal.loop-event-preserved
loop-event-preserved c = record {
  version = version_after c.args.events.now c.loop-event.event-index c.args.start c.loop-event.version c.in_ok-version.version _
      c.loop-event-test.true c.loop-event.invariant.version c.in_ok-version.ensures.whole.0;
  text = text_after c.args.geometry.now c.args.text.now.items c.loop-event.text.items c.add_event.new.text.items c.args.events.now
      c.loop-event.event-index c.args.start c.loop-event.version _
      c.loop-event-test.true c.loop-event.invariant.version c.loop-event.invariant.text c.in_ok-version.ensures.whole.1;
  front = front_of_front c.args.text.now.items c.loop-event.text.items c.add_event.new.text.items c.loop-event.invariant.front c.in_ok-version.ensures.front;
}

pub returns : goal.returns
returns c = record {
  whole = c.loop-event.invariant.text
      ∙ ap (λ es. c.args.text.now.items ++ lines_text c.args.geometry.now (event_lines c.args.start es))
      (take_all c.loop-event.event-index c.args.events.now c.loop-event-test.false);
  front = c.loop-event.invariant.front;
}

pub returns-in_err-version : goal.returns-in_err-version
returns-in_err-version c = record {
  whole = search rules;
  front = front_of_front c.args.text.now.items c.loop-event.text.items c.add_event.new.text.items c.loop-event.invariant.front c.in_err-version.ensures.front;
}
