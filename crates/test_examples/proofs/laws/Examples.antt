-- Every row of the worked examples agrees: one claim over the list, by one computed test.
use mathlib.Core.Bool.{Bool, true, ◌&&◌}
use mathlib.Core.List.{List, [], ◌∷◌}
use lib.Dec.{T, eqb, eqb→eq}
use lib.Ieee.Fits.{and_l, and_r}
use lib.Ieee.{to_unsigned, eq, of_bits, round, add, sub, mul, div, lt, le, neg, of_int, to_bits}
use Rattle.recordings.specs.Recordings.{recording}
use Rattle.laws.specs.Count.{counted}
use Rattle.laws.specs.Loop.{upto, downto, changed}
use Rattle.laws.specs.Pieces.{pieces, begun, put_at}
use Rattle.laws.specs.Interpolate.{interpolate}
use Rattle.laws.specs.FloatOrder.{plus}
use Rattle.rounding.specs.Narrow.{narrowed, narrowed_bits}
use Rattle.rounding.specs.Nearest.{nearest_quotient}
use Rattle.rounding.specs.Duration.{nanos_from_secs, secs_from_millis}
use Rattle.decibels.specs.Decibels.{admitted, entry_below, rest_above, line_at, second_difference, correction_at, curve_at, curve, amplitude}
use Rattle.clock.specs.WhenToStart.{clocks_updated, when_to_start}
use Rattle.clock.specs.Clock.{ticks_of, fraction_of, time_of, taken_within, taken, updated}
use Rattle.clock.specs.ClockSpeed.{as_ticks_per_second, allowed_speed}
use Rattle.tween.specs.StartTime.{is_immediate, delay_left, after_delay, at_clock_time, start_time_update}
use Rattle.tween.specs.Tween.{powi_from, powi, in_out_powi, easing_apply, tween_value}
use Rattle.tween.specs.Tweenable.{interpolated}
use Rattle.parameter.specs.Parameter.{parameter_new, interpolated_value, parameter_set, is_now, started_at, tween_start, with_state, tween_move, tween_update_in, tween_update, value_in, new_raw_value, with_previous, with_new_value, parameter_update}
use Rattle.playback.specs.PlaybackStateManager.{is_advancing, is_stopped, playback_new, interpolated_fade_volume, playback_pause, resumed, resumed_at, playback_resume, after_fade, waited_until, waiting_update, state_update, playback_update}
use Rattle.root.specs.Root.{units, reaches, last, root}
use Rattle.spatial.specs.Spatial.{length_squared, distance, clamp as held_distance, relative_distance, relative_volume, attenuation, factor}
use Rattle.scene.specs.Scene.{volume_of, kind_of, clock_time_of, start_time_of, easing_of, head_of, clock_of, track_of, send_of, route_of, sound_of, order_of, listener_of, position_of, distances_of, placing_of, placings_of, filled, scene_of}
use Rattle.scene_questions.specs.Questions.{speed_of}
use Rattle.frame.specs.Frame.{added, scaled, clamp, clamped, added_from, added_scaled, sample_frame}
use Rattle.frame.specs.Layout.{frame_at, put_frame}
use Rattle.chunk.specs.Chunk.{amount_at, level_amplitude, track_amplitude}
use Rattle.track_sounds.specs.Sound.{sound_frame, added_sound, with_sounds}
use Rattle.track.specs.Sub.{over_sub_tracks, placed, track_frame, with_routes, with_track_sends, track_scaled, with_routes_from, sum_over, with_sub_sends}
use Rattle.send_track.specs.Send.{on_sends, send_frame, level_scaled, added_send}
use Rattle.track.specs.Mix.{send_input, tracks_frame, mixed_frame, tracks_set, with_send_tracks, mixed_set}
use Rattle.mixer.specs.Sub.{track_new, track_moved, track_still, track_update, track_set, track_pause, track_resume}
use Rattle.mixer.specs.Mixer.{empty_track, empty_parameter, empty_clock, clocks_new, tracks_new, sends_new, routes_new, mixer_new, live_above, track_step, tracks_update, updated_where, route_update, routes_update, sends_update, mixer_update}
use Rattle.order_lines.specs.Orders.{kind_number, is_kind_for, found_after, last_is_after, dropped, counts, tween_of, resume_tween_of}
use Rattle.mixer.specs.Orders.{map_track, map_send as with_send_mixer, map_route, map_main, ordered_by, resumed_by, order_step, resume_step, mixer_ordered}
use Rattle.mixer.specs.Sounds.{played_more, played_after, played_on, sounds_played}
use Rattle.mixer_chunk.specs.ChunkOf.{level_of, chunk_track, chunk_route, chunk_sound, empty_level, empty_track_row, empty_route_row, empty_sound_row, chunk_tracks, chunk_sends, chunk_routes, chunk_sounds, chunk_of}
use Rattle.renderer.specs.Renderer.{chunk_count, chunk_frames, in_chunk, chunk_done, chunks_done, block_done, mixer_at, channel_at, channels_of, chunk_samples, block_samples, rendered}
use Rattle.test_examples.specs.Examples.{Row, Agree, state_number, zeros_of, zero_frames, rows}

-- the claim as a test, for antt to compute
abbrev agrees : List Row → Bool
agrees [] = true
agrees (r ∷ rest) = eqb r.given r.said && agrees rest

agree_by_test : (list : List Row) → T (agrees list) → Agree list
agree_by_test [] t = tt
agree_by_test (r ∷ rest) t = (eqb→eq r.given r.said (and_l (eqb r.given r.said) (agrees rest) t), agree_by_test rest (and_r (eqb r.given r.said) (agrees rest) t))

pub examples_agree : Agree rows
unfolding rows to_unsigned state_number counted eq of_bits round zeros_of zero_frames upto downto changed pieces begun put_at interpolate narrowed narrowed_bits nearest_quotient nanos_from_secs secs_from_millis admitted entry_below rest_above line_at curve amplitude clocks_updated when_to_start ticks_of fraction_of time_of taken_within taken updated as_ticks_per_second allowed_speed is_immediate delay_left after_delay at_clock_time start_time_update powi_from powi in_out_powi easing_apply tween_value interpolated parameter_new interpolated_value parameter_set is_now started_at tween_start with_state tween_move tween_update_in tween_update value_in new_raw_value with_previous with_new_value parameter_update is_advancing is_stopped playback_new interpolated_fade_volume playback_pause resumed resumed_at playback_resume after_fade waited_until waiting_update state_update playback_update volume_of kind_of clock_time_of start_time_of easing_of head_of clock_of track_of send_of route_of sound_of order_of filled scene_of speed_of added scaled clamp clamped frame_at put_frame added_from added_scaled amount_at level_amplitude track_amplitude sound_frame added_sound with_sounds over_sub_tracks track_frame with_routes with_track_sends track_scaled on_sends with_routes_from send_frame level_scaled added_send send_input tracks_frame mixed_frame tracks_set with_send_tracks mixed_set track_new track_moved track_still track_update track_set track_pause track_resume empty_track empty_parameter empty_clock clocks_new tracks_new sends_new routes_new mixer_new live_above track_step tracks_update updated_where route_update routes_update sends_update mixer_update kind_number is_kind_for found_after last_is_after dropped counts tween_of resume_tween_of map_track with_send_mixer map_route map_main ordered_by resumed_by order_step resume_step mixer_ordered played_more played_after played_on sounds_played level_of chunk_track chunk_route chunk_sound empty_level empty_track_row empty_route_row empty_sound_row chunk_tracks chunk_sends chunk_routes chunk_sounds chunk_of chunk_count chunk_frames in_chunk chunk_done chunks_done block_done mixer_at channel_at channels_of chunk_samples block_samples rendered add sub mul div lt le neg of_int to_bits sample_frame sum_over with_sub_sends second_difference correction_at curve_at recording plus placed units reaches last root length_squared distance held_distance relative_distance relative_volume attenuation factor listener_of position_of distances_of placing_of placings_of
examples_agree = agree_by_test rows tt
