-- `alike` says yes of each stored pair that is alike, and no of each control pair; made by tools/alike_pairs.py. A pair has a declaration of its own, since
-- what one declaration may compute is limited.
use mathlib.Core.Bool.{not}
use lib.Dec.{T}
use lib.Ieee.{to_bits, of_bits}
use Rattle.recordings.specs.Recordings.{recording}
use Rattle.laws.specs.Loop.{upto, changed}
use Rattle.laws.specs.Kept.{rank, kept_of}
use Rattle.scene_tables.specs.Bytes.{every}
use Rattle.scene_questions.specs.Questions.{parent_of}
use Rattle.noninterference.specs.Removed.{new_line, inside_within, inside, removed_track, names_removed, removed_route, removed_sound, removed_placing, removed_order, left_tables, renumbered, renumbered_order, lines_left}
use Rattle.noninterference.specs.Silent.{silent_volume, names, muted, held, pauses_or_resumes, is_holding}
use Rattle.noninterference.specs.Alike.{same, unplaced, same_tables, chosen_left, frames_left, same_bits, silent_choice, alike}
use Rattle.test_alike_pairs.specs.Side.{choice_of, alike_pair}
use Rattle.test_alike_pairs.specs.Pairs.{pair121, pair149, pair158, pair369, pair852, pair915, pair1051, pair1102, pair1197, pair1384, pair1844, pair1848, pair1997, pair2836, pair4370, pair5855, pair6182, pair6308, pair8245, corners, muted_above_silence, loud_volume_order, send_from_below, pause_with_millis, pause_with_when, pause_in_block1, second_pause, resume, outside_frame, outside_origin, outside_pose, outside_placing, outside_listener, alike_pairs, control_pairs}
use Rattle.test_alike_pairs.specs.Computed.{Each}

pair121_alike : T (alike_pair pair121)
unfolding alike_pair choice_of recording alike same_tables same unplaced chosen_left frames_left same_bits silent_choice to_bits of_bits left_tables lines_left kept_of changed renumbered renumbered_order new_line rank inside_within inside removed_track removed_route removed_sound removed_placing removed_order names_removed parent_of muted silent_volume names held pauses_or_resumes is_holding every upto
pair121_alike = tt

pair149_alike : T (alike_pair pair149)
unfolding alike_pair choice_of recording alike same_tables same unplaced chosen_left frames_left same_bits silent_choice to_bits of_bits left_tables lines_left kept_of changed renumbered renumbered_order new_line rank inside_within inside removed_track removed_route removed_sound removed_placing removed_order names_removed parent_of muted silent_volume names held pauses_or_resumes is_holding every upto
pair149_alike = tt

pair158_alike : T (alike_pair pair158)
unfolding alike_pair choice_of recording alike same_tables same unplaced chosen_left frames_left same_bits silent_choice to_bits of_bits left_tables lines_left kept_of changed renumbered renumbered_order new_line rank inside_within inside removed_track removed_route removed_sound removed_placing removed_order names_removed parent_of muted silent_volume names held pauses_or_resumes is_holding every upto
pair158_alike = tt

pair369_alike : T (alike_pair pair369)
unfolding alike_pair choice_of recording alike same_tables same unplaced chosen_left frames_left same_bits silent_choice to_bits of_bits left_tables lines_left kept_of changed renumbered renumbered_order new_line rank inside_within inside removed_track removed_route removed_sound removed_placing removed_order names_removed parent_of muted silent_volume names held pauses_or_resumes is_holding every upto
pair369_alike = tt

pair852_alike : T (alike_pair pair852)
unfolding alike_pair choice_of recording alike same_tables same unplaced chosen_left frames_left same_bits silent_choice to_bits of_bits left_tables lines_left kept_of changed renumbered renumbered_order new_line rank inside_within inside removed_track removed_route removed_sound removed_placing removed_order names_removed parent_of muted silent_volume names held pauses_or_resumes is_holding every upto
pair852_alike = tt

pair915_alike : T (alike_pair pair915)
unfolding alike_pair choice_of recording alike same_tables same unplaced chosen_left frames_left same_bits silent_choice to_bits of_bits left_tables lines_left kept_of changed renumbered renumbered_order new_line rank inside_within inside removed_track removed_route removed_sound removed_placing removed_order names_removed parent_of muted silent_volume names held pauses_or_resumes is_holding every upto
pair915_alike = tt

pair1051_alike : T (alike_pair pair1051)
unfolding alike_pair choice_of recording alike same_tables same unplaced chosen_left frames_left same_bits silent_choice to_bits of_bits left_tables lines_left kept_of changed renumbered renumbered_order new_line rank inside_within inside removed_track removed_route removed_sound removed_placing removed_order names_removed parent_of muted silent_volume names held pauses_or_resumes is_holding every upto
pair1051_alike = tt

pair1102_alike : T (alike_pair pair1102)
unfolding alike_pair choice_of recording alike same_tables same unplaced chosen_left frames_left same_bits silent_choice to_bits of_bits left_tables lines_left kept_of changed renumbered renumbered_order new_line rank inside_within inside removed_track removed_route removed_sound removed_placing removed_order names_removed parent_of muted silent_volume names held pauses_or_resumes is_holding every upto
pair1102_alike = tt

pair1197_alike : T (alike_pair pair1197)
unfolding alike_pair choice_of recording alike same_tables same unplaced chosen_left frames_left same_bits silent_choice to_bits of_bits left_tables lines_left kept_of changed renumbered renumbered_order new_line rank inside_within inside removed_track removed_route removed_sound removed_placing removed_order names_removed parent_of muted silent_volume names held pauses_or_resumes is_holding every upto
pair1197_alike = tt

pair1384_alike : T (alike_pair pair1384)
unfolding alike_pair choice_of recording alike same_tables same unplaced chosen_left frames_left same_bits silent_choice to_bits of_bits left_tables lines_left kept_of changed renumbered renumbered_order new_line rank inside_within inside removed_track removed_route removed_sound removed_placing removed_order names_removed parent_of muted silent_volume names held pauses_or_resumes is_holding every upto
pair1384_alike = tt

pair1844_alike : T (alike_pair pair1844)
unfolding alike_pair choice_of recording alike same_tables same unplaced chosen_left frames_left same_bits silent_choice to_bits of_bits left_tables lines_left kept_of changed renumbered renumbered_order new_line rank inside_within inside removed_track removed_route removed_sound removed_placing removed_order names_removed parent_of muted silent_volume names held pauses_or_resumes is_holding every upto
pair1844_alike = tt

pair1848_alike : T (alike_pair pair1848)
unfolding alike_pair choice_of recording alike same_tables same unplaced chosen_left frames_left same_bits silent_choice to_bits of_bits left_tables lines_left kept_of changed renumbered renumbered_order new_line rank inside_within inside removed_track removed_route removed_sound removed_placing removed_order names_removed parent_of muted silent_volume names held pauses_or_resumes is_holding every upto
pair1848_alike = tt

pair1997_alike : T (alike_pair pair1997)
unfolding alike_pair choice_of recording alike same_tables same unplaced chosen_left frames_left same_bits silent_choice to_bits of_bits left_tables lines_left kept_of changed renumbered renumbered_order new_line rank inside_within inside removed_track removed_route removed_sound removed_placing removed_order names_removed parent_of muted silent_volume names held pauses_or_resumes is_holding every upto
pair1997_alike = tt

pair2836_alike : T (alike_pair pair2836)
unfolding alike_pair choice_of recording alike same_tables same unplaced chosen_left frames_left same_bits silent_choice to_bits of_bits left_tables lines_left kept_of changed renumbered renumbered_order new_line rank inside_within inside removed_track removed_route removed_sound removed_placing removed_order names_removed parent_of muted silent_volume names held pauses_or_resumes is_holding every upto
pair2836_alike = tt

pair4370_alike : T (alike_pair pair4370)
unfolding alike_pair choice_of recording alike same_tables same unplaced chosen_left frames_left same_bits silent_choice to_bits of_bits left_tables lines_left kept_of changed renumbered renumbered_order new_line rank inside_within inside removed_track removed_route removed_sound removed_placing removed_order names_removed parent_of muted silent_volume names held pauses_or_resumes is_holding every upto
pair4370_alike = tt

pair5855_alike : T (alike_pair pair5855)
unfolding alike_pair choice_of recording alike same_tables same unplaced chosen_left frames_left same_bits silent_choice to_bits of_bits left_tables lines_left kept_of changed renumbered renumbered_order new_line rank inside_within inside removed_track removed_route removed_sound removed_placing removed_order names_removed parent_of muted silent_volume names held pauses_or_resumes is_holding every upto
pair5855_alike = tt

pair6182_alike : T (alike_pair pair6182)
unfolding alike_pair choice_of recording alike same_tables same unplaced chosen_left frames_left same_bits silent_choice to_bits of_bits left_tables lines_left kept_of changed renumbered renumbered_order new_line rank inside_within inside removed_track removed_route removed_sound removed_placing removed_order names_removed parent_of muted silent_volume names held pauses_or_resumes is_holding every upto
pair6182_alike = tt

pair6308_alike : T (alike_pair pair6308)
unfolding alike_pair choice_of recording alike same_tables same unplaced chosen_left frames_left same_bits silent_choice to_bits of_bits left_tables lines_left kept_of changed renumbered renumbered_order new_line rank inside_within inside removed_track removed_route removed_sound removed_placing removed_order names_removed parent_of muted silent_volume names held pauses_or_resumes is_holding every upto
pair6308_alike = tt

pair8245_alike : T (alike_pair pair8245)
unfolding alike_pair choice_of recording alike same_tables same unplaced chosen_left frames_left same_bits silent_choice to_bits of_bits left_tables lines_left kept_of changed renumbered renumbered_order new_line rank inside_within inside removed_track removed_route removed_sound removed_placing removed_order names_removed parent_of muted silent_volume names held pauses_or_resumes is_holding every upto
pair8245_alike = tt

corners_alike : T (alike_pair corners)
unfolding alike_pair choice_of recording alike same_tables same unplaced chosen_left frames_left same_bits silent_choice to_bits of_bits left_tables lines_left kept_of changed renumbered renumbered_order new_line rank inside_within inside removed_track removed_route removed_sound removed_placing removed_order names_removed parent_of muted silent_volume names held pauses_or_resumes is_holding every upto
corners_alike = tt

muted_above_silence-not : T (not (alike_pair muted_above_silence))
unfolding alike_pair choice_of recording alike same_tables same unplaced chosen_left frames_left same_bits silent_choice to_bits of_bits left_tables lines_left kept_of changed renumbered renumbered_order new_line rank inside_within inside removed_track removed_route removed_sound removed_placing removed_order names_removed parent_of muted silent_volume names held pauses_or_resumes is_holding every upto
muted_above_silence-not = tt

loud_volume_order-not : T (not (alike_pair loud_volume_order))
unfolding alike_pair choice_of recording alike same_tables same unplaced chosen_left frames_left same_bits silent_choice to_bits of_bits left_tables lines_left kept_of changed renumbered renumbered_order new_line rank inside_within inside removed_track removed_route removed_sound removed_placing removed_order names_removed parent_of muted silent_volume names held pauses_or_resumes is_holding every upto
loud_volume_order-not = tt

send_from_below-not : T (not (alike_pair send_from_below))
unfolding alike_pair choice_of recording alike same_tables same unplaced chosen_left frames_left same_bits silent_choice to_bits of_bits left_tables lines_left kept_of changed renumbered renumbered_order new_line rank inside_within inside removed_track removed_route removed_sound removed_placing removed_order names_removed parent_of muted silent_volume names held pauses_or_resumes is_holding every upto
send_from_below-not = tt

pause_with_millis-not : T (not (alike_pair pause_with_millis))
unfolding alike_pair choice_of recording alike same_tables same unplaced chosen_left frames_left same_bits silent_choice to_bits of_bits left_tables lines_left kept_of changed renumbered renumbered_order new_line rank inside_within inside removed_track removed_route removed_sound removed_placing removed_order names_removed parent_of muted silent_volume names held pauses_or_resumes is_holding every upto
pause_with_millis-not = tt

pause_with_when-not : T (not (alike_pair pause_with_when))
unfolding alike_pair choice_of recording alike same_tables same unplaced chosen_left frames_left same_bits silent_choice to_bits of_bits left_tables lines_left kept_of changed renumbered renumbered_order new_line rank inside_within inside removed_track removed_route removed_sound removed_placing removed_order names_removed parent_of muted silent_volume names held pauses_or_resumes is_holding every upto
pause_with_when-not = tt

pause_in_block1-not : T (not (alike_pair pause_in_block1))
unfolding alike_pair choice_of recording alike same_tables same unplaced chosen_left frames_left same_bits silent_choice to_bits of_bits left_tables lines_left kept_of changed renumbered renumbered_order new_line rank inside_within inside removed_track removed_route removed_sound removed_placing removed_order names_removed parent_of muted silent_volume names held pauses_or_resumes is_holding every upto
pause_in_block1-not = tt

second_pause-not : T (not (alike_pair second_pause))
unfolding alike_pair choice_of recording alike same_tables same unplaced chosen_left frames_left same_bits silent_choice to_bits of_bits left_tables lines_left kept_of changed renumbered renumbered_order new_line rank inside_within inside removed_track removed_route removed_sound removed_placing removed_order names_removed parent_of muted silent_volume names held pauses_or_resumes is_holding every upto
second_pause-not = tt

resume-not : T (not (alike_pair resume))
unfolding alike_pair choice_of recording alike same_tables same unplaced chosen_left frames_left same_bits silent_choice to_bits of_bits left_tables lines_left kept_of changed renumbered renumbered_order new_line rank inside_within inside removed_track removed_route removed_sound removed_placing removed_order names_removed parent_of muted silent_volume names held pauses_or_resumes is_holding every upto
resume-not = tt

outside_frame-not : T (not (alike_pair outside_frame))
unfolding alike_pair choice_of recording alike same_tables same unplaced chosen_left frames_left same_bits silent_choice to_bits of_bits left_tables lines_left kept_of changed renumbered renumbered_order new_line rank inside_within inside removed_track removed_route removed_sound removed_placing removed_order names_removed parent_of muted silent_volume names held pauses_or_resumes is_holding every upto
outside_frame-not = tt

outside_origin-not : T (not (alike_pair outside_origin))
unfolding alike_pair choice_of recording alike same_tables same unplaced chosen_left frames_left same_bits silent_choice to_bits of_bits left_tables lines_left kept_of changed renumbered renumbered_order new_line rank inside_within inside removed_track removed_route removed_sound removed_placing removed_order names_removed parent_of muted silent_volume names held pauses_or_resumes is_holding every upto
outside_origin-not = tt

outside_pose-not : T (not (alike_pair outside_pose))
unfolding alike_pair choice_of recording alike same_tables same unplaced chosen_left frames_left same_bits silent_choice to_bits of_bits left_tables lines_left kept_of changed renumbered renumbered_order new_line rank inside_within inside removed_track removed_route removed_sound removed_placing removed_order names_removed parent_of muted silent_volume names held pauses_or_resumes is_holding every upto
outside_pose-not = tt

outside_placing-not : T (not (alike_pair outside_placing))
unfolding alike_pair choice_of recording alike same_tables same unplaced chosen_left frames_left same_bits silent_choice to_bits of_bits left_tables lines_left kept_of changed renumbered renumbered_order new_line rank inside_within inside removed_track removed_route removed_sound removed_placing removed_order names_removed parent_of muted silent_volume names held pauses_or_resumes is_holding every upto
outside_placing-not = tt

outside_listener-not : T (not (alike_pair outside_listener))
unfolding alike_pair choice_of recording alike same_tables same unplaced chosen_left frames_left same_bits silent_choice to_bits of_bits left_tables lines_left kept_of changed renumbered renumbered_order new_line rank inside_within inside removed_track removed_route removed_sound removed_placing removed_order names_removed parent_of muted silent_volume names held pauses_or_resumes is_holding every upto
outside_listener-not = tt

pub all_alike : Each alike_pair alike_pairs
all_alike = (pair121_alike, (pair149_alike, (pair158_alike, (pair369_alike, (pair852_alike, (pair915_alike, (pair1051_alike, (pair1102_alike, (pair1197_alike, (pair1384_alike, (pair1844_alike, (pair1848_alike, (pair1997_alike, (pair2836_alike, (pair4370_alike, (pair5855_alike, (pair6182_alike, (pair6308_alike, (pair8245_alike, (corners_alike, tt))))))))))))))))))))

pub no_control : Each (λ p. not (alike_pair p)) control_pairs
no_control = (muted_above_silence-not, (loud_volume_order-not, (send_from_below-not, (pause_with_millis-not, (pause_with_when-not, (pause_in_block1-not, (second_pause-not, (resume-not, (outside_frame-not, (outside_origin-not, (outside_pose-not, (outside_placing-not, (outside_listener-not, tt)))))))))))))
