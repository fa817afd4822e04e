mod Told
mod StageMarks
mod Objects
mod Stages
