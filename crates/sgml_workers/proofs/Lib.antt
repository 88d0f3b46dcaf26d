mod ChunkRuns
